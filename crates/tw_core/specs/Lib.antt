pub mod Machine
pub mod Steps
pub mod Good
pub mod Run
pub mod Parts
pub mod RefusalNames
pub mod Cut
