pub mod Books
pub mod Phases
pub mod Pulses
pub mod LinkStages
-- Handed on to the crates above that list this one and not these.
pub use Rattle.bus_laws
