mod Values
mod Leading
mod Decided
mod Sums
mod Kept
pub mod Saving
