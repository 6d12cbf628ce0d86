pub mod Phases
pub mod Half
pub mod Dialogue
pub mod Reading
pub mod Tables
pub mod Saved
-- Handed on to the crates above that list this one and not these.
pub use Rattle.bus_base
pub use Rattle.bus_trace
pub use Rattle.msg_grammar
