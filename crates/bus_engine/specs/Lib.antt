pub mod Disks
pub mod Runs
pub mod Members
pub mod Answers
pub mod Over
