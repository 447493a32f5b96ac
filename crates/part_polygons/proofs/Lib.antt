pub mod Sides
pub mod Boundary
pub mod Corners
pub mod Sound
pub mod PartTest
pub mod PolygonPoints
pub mod Begins
pub mod TestExists
