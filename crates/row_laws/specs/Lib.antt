pub mod Asked
pub mod ByteValues
pub mod Ends
pub mod Offers
pub mod Attention
pub mod DataPointers
pub mod Tells
pub mod Places
pub mod ItemTalks
pub mod ItemFacts
pub mod HeardPlaces
pub mod Attendance
pub mod WriteFacts
-- Handed on to the crates above that list this one and not these.
pub use Rattle.book_laws
pub use Rattle.link_laws.specs.bus_laws
pub use Rattle.link_laws
pub use Rattle.scsi_device
