mod Cases
mod TapeCases
mod Small
pub mod StorySteps
pub mod CarriedLists
pub mod SameBytes
