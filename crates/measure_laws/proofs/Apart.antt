-- Rows outside a connection: those on the way to one, and a calling that is not answered.
pub mod Future
pub mod Falls
pub mod Tries
pub mod Senses
pub mod Unanswered
pub mod Way
pub mod Rows
