pub mod Size
pub mod Extent
