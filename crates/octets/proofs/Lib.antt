pub mod Copying
pub mod Numbers
pub mod Parts
pub mod Fields
pub mod Tests
pub mod Beginnings
pub mod Chains
