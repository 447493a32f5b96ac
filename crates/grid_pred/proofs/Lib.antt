mod Turns
mod Vectors
pub mod Small
pub mod Sizes
pub mod Order
mod BySides
pub mod Upper
mod UnderTests
mod Nearer
mod Weighted
mod MeetingPoint
mod Heights
mod Lengths
pub mod Rooms
