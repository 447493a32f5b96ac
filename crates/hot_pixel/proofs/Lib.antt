mod Beside
mod Rounded
mod Gains
mod Crossed
mod Hot
mod Keyed
mod NearBoxes
pub mod Ascending
mod Along
mod MetPixels
mod InColumns
