-- What rows and events leave of the scenario's lines that are still to come.
pub mod Lowers
pub mod Futures
pub mod Still
pub mod Endings
pub mod Shifts
