pub mod Queue
pub mod Waiting
pub mod Segments
pub mod Ready
pub mod Chains
pub mod State
