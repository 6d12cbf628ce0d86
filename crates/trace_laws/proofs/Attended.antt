-- The events of a row are of the process that is served, or of an abort in the connection (`attends`).
pub mod Events
pub mod Rows
pub mod Turns
pub mod Next
pub mod Facts
pub mod Asks
pub mod Told
