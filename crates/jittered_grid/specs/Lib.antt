pub mod Draws
pub mod Cells
