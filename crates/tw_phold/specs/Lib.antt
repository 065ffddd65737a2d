pub mod Random
pub mod Phold
