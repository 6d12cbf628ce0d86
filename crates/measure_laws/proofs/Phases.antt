-- Rows inside a phase: what is under way falls with each, byte by byte and by pulses.
pub mod Shakes
pub mod Still
pub mod Calm
pub mod Pulls
pub mod CalmKinds
pub mod Bytes
pub mod Stays
pub mod Pulses
pub mod Rows
pub mod Asks
pub mod Room
pub mod Falls
