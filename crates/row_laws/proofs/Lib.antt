pub mod Names
pub mod Common
pub mod Lines
pub mod Bytes
pub mod Ends
pub mod Events
pub mod Shown
