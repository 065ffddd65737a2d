pub mod Left
pub mod Started
