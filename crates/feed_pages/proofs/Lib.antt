mod Turns
mod Feeding
mod Checksums
pub mod Runs
mod State
pub mod Feedings
pub mod Started
