-- A connection begins, or ends: its item, or the command that is served again, pays.
pub mod Begins
pub mod BeginFalls
pub mod EndFalls
pub mod Parts
pub mod LinkOff
pub mod Edges
