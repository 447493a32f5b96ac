pub mod Crossing
pub mod Meeting
pub mod Laws
pub mod Across
pub mod Examples
pub mod Winding
pub mod EitherEnd
pub mod Borders
