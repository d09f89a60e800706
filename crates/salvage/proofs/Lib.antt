pub mod Walking
mod Columns
mod Telling
mod Steps
mod Pages
mod Filled
mod Putting
mod Salvaging
