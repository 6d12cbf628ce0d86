-- Each reply that was given has its cause in the history.
pub mod Facts
pub mod Refusals
pub mod Senses
