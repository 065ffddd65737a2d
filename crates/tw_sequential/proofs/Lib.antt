pub mod States
pub mod Running
pub mod Step
