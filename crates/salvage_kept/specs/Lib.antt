pub mod Pass
pub mod Code
pub mod Promises
pub mod Found
