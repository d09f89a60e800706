pub mod Streams
pub mod Code
pub mod Statements
