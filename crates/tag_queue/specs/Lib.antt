pub mod Queue
pub mod Stored
