-- The last message of a connection (`facts.last`).
pub mod Turns
pub mod Bytes
pub mod Rows
pub mod Facts
