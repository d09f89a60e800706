pub mod Names
pub mod Gain
