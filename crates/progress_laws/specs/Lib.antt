pub mod Queued
pub mod Debts
pub mod DebtTests
-- Handed on to the crates above that list this one and not these.
pub use Rattle.trace_laws.specs.scsi_device
pub use Rattle.trace_laws.specs.target_units
pub use Rattle.trace_laws.specs.book_laws
pub use Rattle.trace_laws.specs.bus_laws
pub use Rattle.trace_laws.specs.link_laws
pub use Rattle.trace_laws.specs.row_laws
pub use Rattle.trace_laws.specs.story_laws
pub use Rattle.trace_laws
