pub mod Safe
pub mod Stable
