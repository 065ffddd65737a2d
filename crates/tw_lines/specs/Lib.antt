pub mod Words
pub mod FaultNames
pub mod LineReader
pub mod Reading
