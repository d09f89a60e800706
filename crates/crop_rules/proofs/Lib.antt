pub mod Renumbered
pub mod Sound
pub mod Along
pub mod Listed
pub mod Entry
pub mod Cropped
pub mod Following
pub mod Instances
