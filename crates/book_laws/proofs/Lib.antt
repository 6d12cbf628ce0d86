pub mod Names
mod Cases
mod StoryCases
pub mod Common
pub mod Said
pub mod Items
pub mod Carried
pub mod Given
pub mod Known
pub mod Faith
pub mod Traces
pub mod RowTies
pub mod Reactions
pub mod Messages
pub mod Replies
pub mod Failures
mod Forward
mod CauseCases
mod CauseRunCases
