pub mod Seated
pub mod Absent
pub mod Readies
pub mod Units
pub mod Fillings
pub mod Loads
pub mod Rooms
-- Handed on to the crates above that list this one and not these.
pub use Rattle.scsi_device
