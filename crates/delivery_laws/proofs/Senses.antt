-- The sense with which a command ends is that of its own reply, or its REQUEST SENSE was stopped (7.6, 7.8).
pub mod Stopped
pub mod Events
pub mod Rows
pub mod Facts
pub mod Stops
