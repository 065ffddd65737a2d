pub mod Lawful
pub mod First
pub mod Plain
