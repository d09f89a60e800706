pub mod Starts
pub mod Turning
pub mod Finding
