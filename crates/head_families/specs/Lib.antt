pub mod Families
pub mod Listed
