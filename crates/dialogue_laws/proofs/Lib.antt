pub mod Names
pub mod AbortLines
mod Cases
pub mod Struck
pub mod Leavings
pub mod DataRuns
mod Turns
mod TurnCases
