-- A phase begins, bytes cross by REQ and ACK, and it is left; each row obeys the rules (6.1.5.1).
pub mod Duties
pub mod Stays
pub mod Crossings
pub mod Leavings
pub mod First
pub mod Asks
pub mod Faults
pub mod Ends
