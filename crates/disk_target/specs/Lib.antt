pub mod Bytes
pub mod Standings
pub mod Processes
pub mod Attended
pub mod Targets
pub mod Turns
pub mod Knowns
pub mod Waits
pub mod Needs
-- Handed on to the crates above that list this one and not these.
pub use Rattle.target_course
