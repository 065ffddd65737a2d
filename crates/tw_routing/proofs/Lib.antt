pub mod Own
pub mod Kept
