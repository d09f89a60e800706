pub mod Crc
pub mod Sliced
pub mod Code
pub mod Statements
