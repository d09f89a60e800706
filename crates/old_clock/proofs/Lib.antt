pub mod Adding
pub mod Whole
pub mod Readings
