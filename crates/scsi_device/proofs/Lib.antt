pub mod Places
mod Told
pub mod OwnRows
mod Dues
pub mod Finds
pub mod LineReads
mod LoadLines
pub mod LinesSoFar
pub mod LinesBuilt
pub mod FitLines
pub mod WantTimes
pub mod SentBytes
pub mod PhaseLines
