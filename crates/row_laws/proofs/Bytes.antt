-- That what both ends give are bytes, after any rows of the eight devices.
pub mod Blocks
pub mod SmallLines
pub mod Spoken
pub mod Facts
pub mod Executions
pub mod Arrays
pub mod Codes
