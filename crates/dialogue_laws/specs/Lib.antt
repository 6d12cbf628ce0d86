pub mod AbortLines
pub mod Recoveries
pub mod Runs
