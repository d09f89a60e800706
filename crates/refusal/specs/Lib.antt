pub mod Numbers
pub mod Checks
pub mod Told
pub mod Statements
