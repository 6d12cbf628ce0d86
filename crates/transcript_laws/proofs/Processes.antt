-- The processes that were sent, and their names: each connection more has a name of its own, and few are begun.
pub mod Sent
pub mod Last
pub mod Numbers
pub mod Apart
pub mod Kept
pub mod Counts
pub mod Facts
