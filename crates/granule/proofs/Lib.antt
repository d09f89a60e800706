pub mod Tallies
pub mod Counting
pub mod Placing
