pub mod Below
pub mod Linked
pub mod Weights
pub mod Crossed
pub mod Laws
pub mod Examples
