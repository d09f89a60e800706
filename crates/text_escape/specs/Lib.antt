pub mod Hidden
pub mod Escape
pub mod Undo
pub mod Statements
