pub mod Asked
pub mod Filled
pub mod Longest
pub mod Runs
pub mod SnappedEdges
