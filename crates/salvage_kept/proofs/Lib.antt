pub mod Outputs
pub mod Passing
pub mod Phase
pub mod Holding
mod Carrying
mod Dropping
pub mod Feeding
mod Running
mod Settling
mod Finding
