pub mod Commands
pub mod Values
pub mod Words
pub mod Named
pub mod Matched
pub mod Accepted
