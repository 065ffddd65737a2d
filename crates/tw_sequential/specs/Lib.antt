pub mod Run
pub mod States
