-- COMMAND COMPLETE is answered once, and its process ends with it (`closes`).
pub mod Counts
pub mod Stays
pub mod Asks
pub mod Ends
pub mod Status
pub mod Facts
