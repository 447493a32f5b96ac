pub mod Members
pub mod Middle
pub mod Parts
pub mod Path
pub mod Under
