pub mod Nearest
pub mod Boxes
pub mod Cycles
pub mod Links
pub mod Numbers
