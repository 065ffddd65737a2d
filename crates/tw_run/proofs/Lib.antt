pub mod Dealt
pub mod Endings
pub mod Going
pub mod Watching
pub mod Stops
