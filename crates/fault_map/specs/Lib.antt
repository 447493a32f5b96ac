pub mod Polygon
pub mod FaultMap
pub mod Beyond
pub mod Laws
