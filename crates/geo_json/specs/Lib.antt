pub mod Shape
pub mod Reading
pub mod Fault
pub mod Noting
pub mod Collecting
