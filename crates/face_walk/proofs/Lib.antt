pub mod Nearer
pub mod Places
pub mod Numbering
mod Marking
mod Cycles
mod Settling
mod Depth
mod Searching
mod LinksDown
mod Linking
pub mod Reading
