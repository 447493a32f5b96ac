pub mod Alike
pub mod Searching
pub mod Beside
pub mod GapMarks
