pub mod Codes
pub mod Only
pub mod Ignored
pub mod Senses
pub mod TapeCodes
pub mod TapeBack
pub mod TapeOnly
pub mod TapeIgnored
pub mod Counts
pub mod Readings
mod TapeCases
