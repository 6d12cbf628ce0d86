pub mod Processes
pub mod Contents
pub mod PlainBlocks
pub mod Replies
pub mod Reels
pub mod TapeExecution
pub mod Tapes
pub mod Execution
pub mod Order
pub mod Units
pub mod Steps
pub mod Seats
pub mod SoundArray
pub mod ArrayHistory
pub mod SeatReplies
-- Handed on to the crates above that list this one and not these.
pub use Rattle.cdb_codec
pub use Rattle.scenario
