pub mod Near
pub mod Blocks
pub mod Along
pub mod Inside
pub mod Outside
pub mod Sides
pub mod Corners
pub mod Facing
