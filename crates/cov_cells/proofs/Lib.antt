pub mod Triangles
pub mod Looking
pub mod Living
