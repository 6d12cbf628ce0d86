pub mod Names
pub mod Ran
pub mod Statuses
pub mod Offers
pub mod Given
pub mod DataIn
pub mod Replies
pub mod Samples
mod Cases
mod GivenCases
