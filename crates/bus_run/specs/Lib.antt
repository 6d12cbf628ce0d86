pub mod Seams
pub mod Shown
pub mod Runs
pub mod Seen
pub mod Label
pub mod Places
pub mod Standing
pub mod Away
