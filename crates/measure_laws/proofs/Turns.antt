-- A phase is left for another, none of the two being of data: a phase less is left, or a fault pays.
pub mod Table
pub mod Turned
pub mod Leavings
pub mod Struck
pub mod Falls
pub mod Pays
pub mod Out
pub mod OutFalls
pub mod Strikes
pub mod Edges
