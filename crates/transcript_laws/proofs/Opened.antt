-- What is kept of the connection of a transcript, row by row of a prompt trace.
pub mod Resets
pub mod Rows
pub mod Bytes
pub mod Facts
