mod Nibbles
mod Written
mod CodeSets
pub mod Pieces
mod Numbers
mod LongTokens
mod KeptTokens
pub mod ReadAlike
mod Cases
mod TraceCases
mod BackTokens
pub mod ReadBack
