pub mod Closes
pub mod Failures
pub mod AttendanceAsked
pub mod ResetLines
pub mod SentFailures
pub mod ClearFacts
pub mod Statuses
pub mod RunsLeft
-- Handed on to the crates above that list this one and not these.
pub use Rattle.target_units
pub use Rattle.story_laws.specs.scsi_device
pub use Rattle.story_laws.specs.book_laws
pub use Rattle.story_laws.specs.bus_laws
pub use Rattle.story_laws.specs.link_laws
pub use Rattle.story_laws.specs.row_laws
pub use Rattle.story_laws
