-- A process fails, or is lost, only past the limit of its target, and where bytes of it were struck.
pub mod Counts
pub mod GiveUps
pub mod Facts
pub mod Struck
pub mod Faults
