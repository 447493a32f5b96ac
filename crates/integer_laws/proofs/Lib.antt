pub mod Ring
pub mod Compare
pub mod Cast
pub mod Sign
pub mod Order
pub mod Bound
mod RingExamples
