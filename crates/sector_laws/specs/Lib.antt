pub mod Sector
pub mod Laws
pub mod Examples
pub mod Direction
pub mod DirectionLaws
pub mod DirectionExamples
