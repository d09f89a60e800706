pub mod Answers
pub mod Readers
pub mod Judging
pub mod Indexes
pub mod Savings
pub mod Croppings
pub mod Checkings
