pub mod Value
pub mod Lookups
pub mod Parts
pub mod Forms
pub mod Needs
pub mod Reading
pub mod Index
pub mod Seen
pub mod Writing
pub mod Reasons
pub mod ReasonText
pub mod Making
-- Handed on to the crates above that list this one and not these.
pub use Rattle.bus_base
pub use Rattle.cdb_codec
