pub mod Next
pub mod Collect
pub mod Statements
