-- What is due of the two ends of a connection, and that nothing of it lies in the past.
pub mod Ends
pub mod Stages
pub mod Facts
