-- Those to whom a sense is owed stand in the hold (7.6, 7.8).
pub mod Steps
pub mod Senses
pub mod Events
pub mod Rows
pub mod Next
pub mod Facts
