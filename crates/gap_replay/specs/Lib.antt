pub mod Replay
pub mod Cleaned
pub mod HeldByReplay
pub mod Laws
