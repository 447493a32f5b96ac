mod Cells
pub mod Shapes
