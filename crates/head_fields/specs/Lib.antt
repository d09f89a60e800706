pub mod Layout
pub mod Right
pub mod Widths
