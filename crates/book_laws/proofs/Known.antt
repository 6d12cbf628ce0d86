-- The initiator of a connection knows the process that its target serves.
pub mod Rows
pub mod First
