pub mod Side
pub mod Directed
pub mod Departures
pub mod Arena
pub mod Arranged
