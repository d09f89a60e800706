pub mod Audio
pub mod Code
pub mod Alike
