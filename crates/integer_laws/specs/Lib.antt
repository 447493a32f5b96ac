pub mod Polynomial
pub mod Bound
pub mod Laws
