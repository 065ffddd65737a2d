pub mod Merged
pub mod Stacked
pub mod Early
mod Heaps
mod Updates
mod Rings
mod Turns
mod Sought
mod Removed
mod Stepped
mod Widths
mod Words
