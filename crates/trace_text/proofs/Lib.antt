mod Sample
pub mod Kept
pub mod Pieces
pub mod Driven
pub mod Short
pub mod Front
pub mod RowAgain
pub mod TraceAgain
pub mod ReadsOnly
pub mod Shown
pub mod RowFront
pub mod Taken
mod TouchedBlocks
mod Reeled
pub mod PiecesLeft
pub mod Devices
pub mod KeptRows
