-- Each row of a prompt trace fits: what the transcript may be told of it.
pub mod Sent
pub mod Senses
pub mod Alone
pub mod First
pub mod Turns
pub mod Crossings
pub mod Out
pub mod Rows
pub mod Leavings
pub mod EndWays
pub mod Named
pub mod Ends
pub mod Facts
