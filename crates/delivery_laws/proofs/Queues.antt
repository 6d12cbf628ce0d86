-- A command is refused exactly where it finds the queue full; with room for all none is (7.8).
pub mod Counts
pub mod Open
pub mod Taken
pub mod Facts
pub mod Arrivals
