pub mod Salvaging
pub mod Columns
pub mod Code
pub mod Putting
