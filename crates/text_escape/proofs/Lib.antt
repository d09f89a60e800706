pub mod Escaping
pub mod Images
pub mod Undoing
pub mod Harmless
