-- What the initiator says in MESSAGE OUT is what it was to say, and the target hears it, after any rows.
pub mod Crossings
pub mod Messages
pub mod Openings
pub mod Rows
pub mod First
pub mod Leavings
