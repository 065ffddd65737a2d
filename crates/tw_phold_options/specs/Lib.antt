pub mod App
pub mod Says
pub mod Fit
