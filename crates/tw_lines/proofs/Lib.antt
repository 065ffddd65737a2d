pub mod Steps
pub mod Numbers
pub mod Numerals
pub mod Splits
pub mod Reading
pub mod Parts
pub mod FirstBytes
