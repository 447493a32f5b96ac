pub mod Own
pub mod Search
pub mod Facing
pub mod Depth
