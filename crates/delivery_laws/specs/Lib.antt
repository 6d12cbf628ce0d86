pub mod Delivery
pub mod Resets
pub mod Endings
pub mod Recoveries
pub mod Openings
-- Handed on to the crates above that list this one and not these.
pub use Rattle.progress_laws
pub use Rattle.right_laws
pub use Rattle.progress_laws.specs.scsi_device
pub use Rattle.progress_laws.specs.target_units
pub use Rattle.progress_laws.specs.book_laws
pub use Rattle.progress_laws.specs.bus_laws
pub use Rattle.progress_laws.specs.link_laws
pub use Rattle.progress_laws.specs.row_laws
pub use Rattle.progress_laws.specs.story_laws
pub use Rattle.progress_laws.specs.trace_laws
