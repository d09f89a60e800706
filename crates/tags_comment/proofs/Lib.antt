pub mod Within
pub mod Names
pub mod Gain
