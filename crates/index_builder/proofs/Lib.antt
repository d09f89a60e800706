pub mod Granules
pub mod Seeking
mod Filling
