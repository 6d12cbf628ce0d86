-- Each command that was sent, is not over and has no connection stands in a queue (6.6.6, 7.8).
pub mod Choices
pub mod Units
pub mod Steps
pub mod Rows
pub mod Ends
pub mod Over
pub mod Resets
pub mod Facts
