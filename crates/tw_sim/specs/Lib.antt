pub mod Ordered
pub mod Rising
pub mod Simulation
pub mod Seq
pub mod Owners
