-- Byte by byte no more requests are answered than rose, and at most one waits.
pub mod Steps
pub mod Rows
pub mod Facts
