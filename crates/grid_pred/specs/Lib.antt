pub mod Half
pub mod Ray
pub mod Along
pub mod Sides
pub mod Crossing
pub mod Sizes
