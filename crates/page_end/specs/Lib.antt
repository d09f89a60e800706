pub mod End
pub mod Statements
