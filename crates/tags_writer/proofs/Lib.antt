pub mod Lengths
pub mod Laying
pub mod Taking
pub mod RoundTrip
pub mod Again
pub mod Instances
