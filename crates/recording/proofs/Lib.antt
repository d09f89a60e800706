pub mod Cutting
pub mod Passing
pub mod Places
mod Feedings
pub mod Streams
pub mod Walking
mod Judging
mod Runs
mod Steps
pub mod Numbers
