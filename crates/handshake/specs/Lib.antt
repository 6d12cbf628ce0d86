pub mod Bounds
pub mod Crossings
pub mod Steps
pub mod Telling
pub mod Early
pub mod Situation
