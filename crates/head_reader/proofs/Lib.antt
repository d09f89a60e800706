pub mod Answers
pub mod Mapping
pub mod Places
pub mod ReadRight
pub mod Extra
