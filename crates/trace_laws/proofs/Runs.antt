-- The data runs: how far each has come, in bytes asked for and answered (`sends`), and that a process without a reply
-- has one left (`runs_left`).
pub mod Parts
pub mod Fits
pub mod Rows
pub mod Facts
pub mod Steps
pub mod Asks
pub mod CountRows
pub mod Begins
pub mod Begun
pub mod Counts
pub mod Data
pub mod Done
pub mod Whole
pub mod Left
pub mod Events
pub mod AllSent
