mod Stories
mod TapeStories
pub mod Touched
pub mod WholeBlocks
pub mod NamedBlocks
pub mod TapeReplies
pub mod TapeObjects
pub mod TapeCounts
pub mod OperationCodes
pub mod Executed
pub mod ExecutionFacts
pub mod SeatLookups
pub mod SeatSteps
pub mod SeatOwn
pub mod SeatEvents
mod SeatAborts
pub mod SoundArrays
pub mod SeatReplies
pub mod SeatLaws
pub mod ArrayReplies
pub mod SeatContexts
pub mod ArrayUnits
pub mod UnitContents
pub mod UnitKinds
