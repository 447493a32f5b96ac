pub mod Segments
pub mod Contacts
pub mod Beside
pub mod Corners
pub mod Admitted
pub mod Refused
pub mod FirstMarks
