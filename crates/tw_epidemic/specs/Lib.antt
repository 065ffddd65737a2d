pub mod Epidemic
