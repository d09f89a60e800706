pub mod Filling
pub mod Fitting
pub mod Building
pub mod Alike
