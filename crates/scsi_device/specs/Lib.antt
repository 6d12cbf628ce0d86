pub mod Writes
pub mod NoUnits
pub mod Lines
pub mod Told
pub mod Itself
pub mod Acts
pub mod Heard
