pub mod Names
pub mod Lines
pub mod Stages
pub mod Resets
pub mod Times
mod Cases
mod HeardRuns
mod HeardCases
mod WrittenRuns
mod WrittenCases
