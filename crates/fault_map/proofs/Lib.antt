mod Listing
mod Single
mod ByPlace
mod Grouping
mod Pieces
mod Yielded
mod Borders
mod Appended
pub mod Overlays
mod OneFeature
pub mod OneMap
