pub mod Joins
pub mod Pieces
