pub mod Checks
pub mod Lengths
pub mod Listing
