pub mod Pixel
pub mod Near
pub mod Centres
pub mod HotSet
pub mod Columns
