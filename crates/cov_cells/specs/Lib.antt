pub mod Way
pub mod Tests
pub mod Slots
