-- Each process that ran and ended has carried just its command block, the bytes that it moves, and its status.
pub mod Lasting
pub mod Undone
pub mod Open
pub mod Shown
pub mod Crossings
pub mod Blocks
pub mod Sent
pub mod Facts
pub mod Carried
pub mod Lengths
pub mod Right
