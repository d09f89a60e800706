pub mod Tidied
pub mod Statements
