pub mod Writing
pub mod Statements
pub mod Instances
