-- What the target gives in MESSAGE IN is what it plans to say, and the initiator hears it, after any rows.
pub mod Leavings
pub mod Rows
pub mod Messages
pub mod Heard
