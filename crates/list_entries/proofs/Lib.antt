pub mod Laying
pub mod Reading
pub mod Following
pub mod Lines
