pub mod Crop
pub mod Cropping
pub mod Statements
pub mod Instances
