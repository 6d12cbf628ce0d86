-- Where the data pointers of processes that do not write stand, and that they have given all as they run.
pub mod Runs
pub mod Entries
pub mod Counts
pub mod Pointers
pub mod Unmoved
pub mod Ends
pub mod Facts
