pub mod Pairs
pub mod Overlaid
pub mod Joint
pub mod Laws
pub mod Examples
