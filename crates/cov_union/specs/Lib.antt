pub mod Owners
pub mod Rim
pub mod United
