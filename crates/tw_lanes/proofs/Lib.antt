pub mod Chunks
pub mod Extremes
