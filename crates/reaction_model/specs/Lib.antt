pub mod Reactions
pub mod Sight
pub mod FreeBus
pub mod Calling
pub mod Linking
pub mod Target
pub mod Initiator
pub mod Ends
pub mod Reset
-- Handed on to the crates above that list this one and not these.
pub use Rattle.bus_lines
