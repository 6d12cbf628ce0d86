pub mod Tape
pub mod Stored
pub mod Drives
