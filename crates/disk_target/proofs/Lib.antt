pub mod Telling
pub mod Lines
pub mod Readies
pub mod Offers
pub mod Data
pub mod StandingSteps
mod StandingEvents
mod ProcessEvents
mod TimesTwice
mod RowEvents
mod Beginnings
mod UnitRows
pub mod AttendedRuns
pub mod RowShapes
pub mod RowOutside
pub mod RowKnown
pub mod RowSent
pub mod RowOwn
pub mod RowServed
pub mod LostUnits
pub mod RowEnds
pub mod RowResets
pub mod Servables
pub mod RowBegins
pub mod Reselected
pub mod Turning
pub mod Apart
pub mod Knowing
mod AttendedCases
pub mod Quiet
pub mod Waiting
pub mod Needs
