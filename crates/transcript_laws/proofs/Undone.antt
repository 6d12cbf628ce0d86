-- What MESSAGE PARITY ERROR brings back in a transcript.
pub mod Bytes
pub mod Leavings
pub mod Facts
