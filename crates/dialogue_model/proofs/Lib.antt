mod Cases
mod WantCases
mod Observing
mod HearingCases
pub mod Leavings
