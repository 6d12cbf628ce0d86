-- Where the data pointers of processes stand, as rows go by.
pub mod Stories
pub mod Kept
pub mod Messages
pub mod Steps
pub mod Rows
pub mod Leavings
pub mod Turns
pub mod Crossings
pub mod Phases
pub mod Waits
pub mod Ends
pub mod Begins
