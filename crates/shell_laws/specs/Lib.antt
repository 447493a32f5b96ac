pub mod Part
pub mod Ring
pub mod Laws
