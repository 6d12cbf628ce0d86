-- The initiator complains only of a phase in which a byte was struck (`complaints`, `complains`).
pub mod Rows
pub mod Turns
pub mod Facts
pub mod Complained
