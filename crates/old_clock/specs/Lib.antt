pub mod Clock
pub mod Statements
