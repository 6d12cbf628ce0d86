-- Where nothing is wanted each command has its outcome, by what stands in the queues and what is owed.
pub mod Unsent
pub mod Seats
pub mod Endings
pub mod Units
pub mod Answered
pub mod Facts
