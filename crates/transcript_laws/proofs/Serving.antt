-- The connection of a process that is known stands in the transcript as it does in the story.
pub mod Steps
pub mod TurnSteps
pub mod Events
pub mod Turns
pub mod Talks
