pub mod EndCounts
pub mod EndsOf
pub mod Gathering
pub mod LesserWays
pub mod PartnerTable
pub mod Pushed
pub mod Walking
pub mod WholeLines
