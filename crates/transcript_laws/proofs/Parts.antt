-- The parts of a connection in a transcript: what each row adds, what a phase leaves, and which events each shows.
pub mod Lists
pub mod Base
pub mod Shown
pub mod Ends
