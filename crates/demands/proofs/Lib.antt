pub mod Cases
pub mod Demands
pub mod Plan
pub mod WrittenOctets
pub mod Example
pub mod Meets
pub mod Instances
