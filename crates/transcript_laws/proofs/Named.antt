-- After a reselection the messages of the target tell the names of the process that it serves.
pub mod Heard
pub mod Parts
pub mod Rows
pub mod Turns
pub mod Facts
