-- The events that the ends show are those that the rows show (`facts`, `told`).
pub mod Events
pub mod Turns
pub mod Ends
pub mod Rows
pub mod Facts
