pub mod Frames
pub mod Reading
pub mod Writing
pub mod Spilling
pub mod Entries
pub mod Changes
