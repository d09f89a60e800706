pub mod Layout
pub mod Finding
