pub mod Register
pub mod Slice
pub mod Turns
pub mod Page
