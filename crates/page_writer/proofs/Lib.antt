pub mod Writing
pub mod Written
pub mod RoundTrip
pub mod Octets
pub mod Fitting
pub mod Part
