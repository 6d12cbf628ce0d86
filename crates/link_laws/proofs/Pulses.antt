-- A data phase by pulses: it begins, bytes cross, and it is left; each row obeys the rules (6.1.5.2).
pub mod Obeys
pub mod Dues
pub mod Steps
pub mod Ahead
pub mod Rows
pub mod In
pub mod Out
pub mod First
pub mod Ends
