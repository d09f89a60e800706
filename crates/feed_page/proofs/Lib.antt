mod Pages
mod Joining
