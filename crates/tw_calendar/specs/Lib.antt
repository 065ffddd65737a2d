pub mod Heap
pub mod Update
pub mod Ring
pub mod Turn
pub mod Wheel
