pub mod Admission
pub mod FirstMark
pub mod Laws
