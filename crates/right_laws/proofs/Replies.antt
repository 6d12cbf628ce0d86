-- What a process that has carried data would answer stays.
pub mod Same
pub mod Targeted
pub mod Blocks
pub mod Queues
pub mod Stays
pub mod Rows
pub mod Senses
pub mod Facts
