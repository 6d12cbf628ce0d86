-- After a reselection the initiator knows the process, or its names are said (`facts.named`).
pub mod Story
pub mod Bytes
pub mod Steps
pub mod Rows
pub mod Turns
pub mod First
pub mod Facts
