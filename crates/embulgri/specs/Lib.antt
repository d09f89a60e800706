pub mod Answers
pub mod Feeding
pub mod Lines
pub mod Streams
pub mod Index
pub mod Saving
pub mod Cropping
pub mod Checking
