pub mod PairAgreements
pub mod BusState
pub mod Items
pub mod CarriedBytes
pub mod Links
pub mod Story
pub mod HistoryEvents
pub mod TraceHistory
pub mod CurrentAgreement
pub mod Samples
pub mod Outcomes
pub mod Right
pub mod Budget
-- Handed on to the crates above that list this one and not these.
pub use Rattle.bus_phases.specs.bus_trace
pub use Rattle.bus_phases.specs.msg_grammar
pub use Rattle.bus_phases
pub use Rattle.array_model
