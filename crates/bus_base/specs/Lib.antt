pub mod Faults
pub mod Memory
pub mod Pieces
pub mod ReadingText
pub mod Standard
pub mod Taken
pub mod Whole
