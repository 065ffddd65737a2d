pub mod App
pub mod Fault
pub mod Says
pub mod Fit
