pub mod Building
pub mod Filling
pub mod Answers
pub mod Statements
