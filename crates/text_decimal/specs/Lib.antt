pub mod Decimal
pub mod Digits
pub mod Code
pub mod Statements
