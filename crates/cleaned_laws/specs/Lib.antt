pub mod Owning
pub mod HeldByLabel
pub mod Laws
