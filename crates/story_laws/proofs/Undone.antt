-- What MESSAGE PARITY ERROR brings back agrees with what the process has (`facts.undo`).
pub mod Rows
pub mod Answers
pub mod Turns
pub mod Facts
