pub mod Shape
pub mod Same
pub mod Verdict
pub mod Packed
pub mod Storage
pub mod Watch
pub mod Windows
