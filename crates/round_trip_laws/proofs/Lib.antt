pub mod Lists
pub mod Spelling
pub mod Numbers
pub mod Tree
pub mod Spelled
pub mod Conditions
pub mod Back
