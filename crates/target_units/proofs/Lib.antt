pub mod LiveQueue
pub mod SeatSteps
pub mod AbsentReplies
pub mod AbsentSteps
pub mod Tellings
pub mod UnitTimes
pub mod Rooms
mod Loading
pub mod Arrivals
pub mod UnitSteps
pub mod UnitRuns
pub mod UnitTellings
pub mod Sendings
pub mod Starts
pub mod ReplySteps
