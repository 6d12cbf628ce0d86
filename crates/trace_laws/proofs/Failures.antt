-- The code of the failure of the process that is served, by the phase (`fails`, `crossed`).
pub mod Bytes
pub mod Faults
pub mod Rows
pub mod Turns
pub mod Turned
pub mod Steps
pub mod Crossings
pub mod Words
pub mod Entries
pub mod Crossed
pub mod Facts
pub mod Left
pub mod First
pub mod Away
