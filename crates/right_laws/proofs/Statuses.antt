-- Of its status a process has carried one byte as COMMAND COMPLETE is taken.
pub mod First
pub mod Leavings
pub mod Areas
pub mod Same
pub mod Stays
pub mod Turns
pub mod Facts
