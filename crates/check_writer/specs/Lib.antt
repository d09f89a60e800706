pub mod Written
pub mod Instances
