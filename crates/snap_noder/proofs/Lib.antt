mod OddOrder
mod Times
mod Lasts
mod Cancel
pub mod Zip
mod Places
pub mod ParityLemmas
mod BySegment
mod Alike
mod Numbering
mod Marking
mod LiveUses
mod Renumbering
mod Snapping
pub mod AlongCurve
