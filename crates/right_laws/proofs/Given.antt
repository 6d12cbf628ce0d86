-- What a process has given of its data is a front of what it would give.
pub mod Replies
pub mod Areas
pub mod Standing
pub mod Bytes
pub mod Sent
pub mod Crossings
pub mod Rows
