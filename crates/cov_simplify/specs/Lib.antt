pub mod Inner
pub mod KeptLines
pub mod Lines
pub mod Without
