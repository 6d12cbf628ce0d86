pub mod Judging
pub mod Saved
