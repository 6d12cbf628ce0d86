-- Whose synchronous data transfer request is open (`facts.offers`).
pub mod Bytes
pub mod Leavings
pub mod Rows
pub mod Turns
pub mod Steps
pub mod Facts
pub mod Statuses
