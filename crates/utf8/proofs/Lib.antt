pub mod Lead
pub mod Tails
pub mod Characters
