pub mod Filling
pub mod Laying
pub mod Putting
