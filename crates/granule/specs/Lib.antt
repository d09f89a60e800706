pub mod Samples
pub mod Judging
pub mod Code
pub mod Statements
