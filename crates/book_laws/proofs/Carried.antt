-- Each process has carried its own bytes alone: of its command, its data and its status.
pub mod Areas
pub mod Crossings
pub mod Facts
pub mod Blocks
pub mod Commands
pub mod Steps
