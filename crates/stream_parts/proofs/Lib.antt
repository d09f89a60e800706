pub mod Numbers
pub mod Alike
pub mod Joining
mod Appending
pub mod Opening
