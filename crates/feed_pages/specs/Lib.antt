pub mod Run
pub mod Feedings
pub mod Answers
pub mod State
pub mod Statements
