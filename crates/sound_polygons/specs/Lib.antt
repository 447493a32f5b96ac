pub mod Parts
pub mod Cleaned
pub mod Holding
pub mod Laws
pub mod Examples
pub mod Square
pub mod Instances
