pub mod Cases
pub mod Demands
pub mod Example
pub mod Instances
