pub mod Owners
pub mod Parted
pub mod Boundaries
pub mod Walks
pub mod Rings
pub mod Members
