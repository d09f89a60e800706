pub mod Samples
pub mod CodedLengths
pub mod Framing
pub mod Shapes
pub mod Outlines
