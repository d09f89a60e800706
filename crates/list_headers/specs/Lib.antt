pub mod Names
pub mod Text
pub mod Code
pub mod Writing
pub mod Statements
