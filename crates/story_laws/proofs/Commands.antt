-- What counts of a command block, and what of it the process has taken (`commands`).
pub mod Counts
pub mod Blocks
pub mod Leavings
pub mod Turns
pub mod Stays
pub mod Messages
pub mod Crossings
pub mod Waits
pub mod First
pub mod Facts
pub mod Next
pub mod Asks
