pub mod Connected
pub mod Lower
