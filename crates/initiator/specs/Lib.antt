pub mod Negotiations
pub mod Speeches
pub mod States
pub mod Dues
pub mod Transfers
pub mod OwnBytes
pub mod Outcomes
pub mod Received
pub mod Hosts
pub mod Causes
pub mod Waits
-- Handed on to the crates above that list this one and not these.
pub use Rattle.initiator_books
