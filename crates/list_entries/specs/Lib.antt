pub mod Entries
pub mod Code
