pub mod Writing
pub mod Code
pub mod Statements
pub mod Instances
