pub mod Scanning
pub mod OnePiece
pub mod Values
