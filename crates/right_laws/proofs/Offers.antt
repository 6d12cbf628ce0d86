-- In DATA IN the byte that crosses is the one that is due.
pub mod Steps
pub mod Rows
pub mod Facts
