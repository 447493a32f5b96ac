pub mod Reading
pub mod Fault
pub mod Form
pub mod Laws
