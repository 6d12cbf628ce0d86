pub mod LineSet
pub mod Numbers
pub mod View
pub mod Trace
pub mod Agreements
pub mod OfTrace
pub mod Changes
pub mod Terms
pub mod Phases
pub mod Saved
-- Handed on to the crates above that list this one and not these.
pub use Rattle.bus_base
