-- To each initiator that stands in a hold its automatic REQUEST SENSE is owed (7.6).
pub mod Steps
pub mod Events
pub mod Rows
