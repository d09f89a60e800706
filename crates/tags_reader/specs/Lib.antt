pub mod Right
pub mod Reading
pub mod Packet
pub mod Code
pub mod Statements
