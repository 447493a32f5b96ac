pub mod Marked
pub mod Order
pub mod Places
pub mod Snapped
pub mod Along
