mod Below
pub mod Back
