pub mod Findings
pub mod Checking
pub mod Statements
