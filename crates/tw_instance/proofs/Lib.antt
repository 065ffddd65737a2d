pub mod Lists
pub mod Paths
pub mod Sparse
pub mod Chained
pub mod Finding
mod Guesses
mod Orders
pub mod Hashes
mod Firsts
pub mod Extending
pub mod ExtendedAt
pub mod Hops
pub mod Links
pub mod Permitted
pub mod Rows
pub mod Matrix
pub mod Marks
pub mod Facts
pub mod Sound
pub mod Indexed
pub mod Growing
pub mod Told
pub mod Scenes
pub mod Placed
