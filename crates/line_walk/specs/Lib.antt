pub mod Ends
pub mod Partners
pub mod Walk
pub mod Line
