pub mod Scans
pub mod Leaving
pub mod Sound
pub mod Chosen
pub mod Clearing
pub mod Waiting
