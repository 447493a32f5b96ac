pub mod Results
pub mod Given
pub mod Orders
pub mod Chains
pub mod Clear
pub mod Shares
