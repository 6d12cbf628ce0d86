-- What is due comes within the longest delay.
pub mod Limits
pub mod Reactions
pub mod Periods
pub mod Rows
pub mod Facts
