pub mod Shapes
pub mod Extents
pub mod Whole
