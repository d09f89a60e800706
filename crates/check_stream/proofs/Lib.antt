mod Storing
mod Laws
mod Turning
mod Comment
mod Gathering
mod Finding
