pub mod Near
pub mod Block
pub mod Inside
pub mod Facing
pub mod Laws
