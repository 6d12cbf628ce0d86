mod Ends
pub mod EndingRows
pub mod StoryEnds
mod Books
mod BookSteps
pub mod Foreign
pub mod Intents
mod Loops
pub mod Mines
mod FirstWords
mod Queues
pub mod Wishes
pub mod WishRows
pub mod HeldSteps
mod OwnCommands
mod KeptCommands
mod PastEndings
mod CheckQueues
