pub mod Ear
pub mod Exchange
pub mod Laws
