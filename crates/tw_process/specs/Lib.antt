pub mod Parts
pub mod Routing
pub mod Behaviour
pub mod First
pub mod Order
pub mod Exact
