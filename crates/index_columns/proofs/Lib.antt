pub mod Falling
pub mod Layouts
pub mod Seeking
pub mod Alike
