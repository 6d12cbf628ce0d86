-- Whom a device calls for: what it has ready is of the scenario, and its own.
pub mod Facts
pub mod Ready
