pub mod Stage
pub mod Effect
pub mod Handshakes
pub mod BusView
pub mod Timely
-- Handed on to the crates above that list this one and not these.
pub use Rattle.bus_trace
