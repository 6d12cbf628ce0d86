-- The last message of a connection, and what comes right after it, where a transcript holds it.
pub mod Last
pub mod Since
pub mod Ends
