-- A phase in which a byte was struck: ATN, and what the initiator says of it.
pub mod Plans
pub mod Complaints
pub mod Rows
pub mod Phases
pub mod Refusals
pub mod Runs
