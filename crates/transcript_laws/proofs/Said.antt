-- What an initiator says in MESSAGE OUT, and the names that it says.
pub mod Words
pub mod Out
pub mod Naming
pub mod Facts
