pub mod Agree
pub mod Totals
pub mod Runs
pub mod Statements
