pub mod Answers
pub mod HeaderBytes
pub mod Laying
pub mod RoundTrip
pub mod Instances
