pub mod Places
pub mod Page
