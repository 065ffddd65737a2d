pub mod Marks
pub mod Standing
pub mod Rounds
pub mod Bound
pub mod Wheel
pub mod Placing
pub mod Halt
pub mod Narrowing
