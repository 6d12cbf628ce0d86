-- What the target of a connection has been told in it (`instructed`).
pub mod Known
pub mod Opening
pub mod Steps
pub mod Turns
pub mod Leavings
pub mod Facts
