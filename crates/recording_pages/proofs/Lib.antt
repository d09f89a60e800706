pub mod Pages
pub mod Places
pub mod Headers
pub mod HeaderPlaces
