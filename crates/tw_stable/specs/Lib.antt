pub mod Splitting
pub mod Progress
