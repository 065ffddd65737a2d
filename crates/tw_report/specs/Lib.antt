pub mod Words
pub mod Lines
pub mod Pieces
pub mod Report
pub mod ReplayText
pub mod Numerals
