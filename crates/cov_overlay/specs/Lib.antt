pub mod Places
pub mod SidePairs
pub mod TooMany
