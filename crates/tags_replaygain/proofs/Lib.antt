pub mod Names
pub mod Comments
pub mod Packet
