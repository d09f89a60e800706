pub mod Right
pub mod Code
pub mod Statements
