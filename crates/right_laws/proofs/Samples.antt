-- The samples that the rows have taken, and what the faults of the scenario have struck of them.
pub mod InTurn
pub mod Calls
pub mod Takes
pub mod NoFaults
pub mod Called
pub mod Resets
pub mod Ends
pub mod Bytes
pub mod Directions
pub mod Taken
pub mod Crossings
pub mod Moments
pub mod Puts
pub mod Next
pub mod Facts
pub mod Callings
