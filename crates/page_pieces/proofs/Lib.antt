pub mod Turns
pub mod Cover
