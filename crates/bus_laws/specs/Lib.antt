pub mod Reactions
pub mod Rows
pub mod Callings
pub mod Ends
pub mod Stages
-- Handed on to the crates above that list this one and not these.
pub use Rattle.scsi_device
