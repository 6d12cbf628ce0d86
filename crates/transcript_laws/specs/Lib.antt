pub mod Parts
pub mod RowTests
pub mod Told
pub mod Past
pub mod Serving
pub mod Numbered
pub mod Keeping
pub mod Standing
-- Handed on to the crates above that list this one and not these.
pub use Rattle.bus_transcript
