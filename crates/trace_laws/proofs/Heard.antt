-- What the target hears in a connection is of the process that it serves (`hears`).
pub mod Rows
pub mod Turns
pub mod Places
