pub mod Putting
pub mod Starting
pub mod Cropping
