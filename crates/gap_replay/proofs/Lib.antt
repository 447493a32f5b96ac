pub mod GapCandidates
pub mod Fillers
pub mod ReplayOwners
pub mod Held
pub mod NarrowGaps
pub mod Longest
