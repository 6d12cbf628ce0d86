-- Where each process stands in the plain disk array, by the phase of its connection (`places`, `permitted`).
pub mod Leavings
pub mod Events
pub mod Turns
pub mod Commands
pub mod TurnRows
pub mod Turned
pub mod Stays
pub mod Ends
pub mod Next
pub mod Ready
pub mod Unshown
pub mod First
pub mod Rows
pub mod Asks
pub mod Facts
pub mod EndTells
pub mod Joins
