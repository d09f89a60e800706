pub mod Pick
pub mod Given
pub mod Octets
pub mod Numbers
