pub mod Coord
pub mod Coverage
pub mod Range
pub mod Rings
pub mod Seg
pub mod Uses
