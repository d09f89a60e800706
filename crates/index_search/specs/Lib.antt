pub mod Index
pub mod Search
pub mod Answers
pub mod Statements
