pub mod Agreement
pub mod Verdict
pub mod Legal
pub mod Single
