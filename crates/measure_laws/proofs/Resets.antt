-- RST: the row that raises it pays with its reset, and each release under it with the device that lets go.
pub mod Counts
pub mod Faults
pub mod Closed
pub mod Drivers
pub mod Falls
