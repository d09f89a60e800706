pub mod Building
pub mod Statements
