pub mod Ways
pub mod Numbers
mod Down
