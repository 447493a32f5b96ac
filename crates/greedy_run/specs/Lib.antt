pub mod Lines
pub mod Run
pub mod Sides
pub mod Laws
pub mod Examples
pub mod Runs
pub mod Borders
pub mod Valid
