-- What a row of an end of a connection leaves on the bus, and what the rules see of it.
pub mod Rows
pub mod Seen
pub mod Obeys
pub mod Faults
pub mod Edges
pub mod Data
