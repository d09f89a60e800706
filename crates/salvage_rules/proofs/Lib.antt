pub mod Greedy
pub mod Examples
pub mod Settling
pub mod Unbroken
pub mod Written
mod Fields
pub mod Accepted
pub mod Saved
pub mod Every
pub mod Found
pub mod Bytes
pub mod Covering
pub mod Pieces
mod Telling
pub mod Removing
pub mod Differing
pub mod Parts
pub mod Room
pub mod Links
pub mod Listed
pub mod Steps
