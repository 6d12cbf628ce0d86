pub mod Putting
pub mod Times
pub mod Marked
