pub mod Mines
pub mod Books
pub mod Commands
pub mod Checks
pub mod Wishes
pub mod Openings
pub mod Intents
pub mod HeldPointers
pub mod OwnLinks
pub mod Endings
-- Handed on to the crates above that list this one and not these.
pub use Rattle.scsi_device
pub use Rattle.io_pointers
