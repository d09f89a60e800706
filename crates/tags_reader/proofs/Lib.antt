pub mod Walking
pub mod Checking
pub mod Finding
pub mod Places
pub mod Together
