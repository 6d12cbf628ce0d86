-- Which process last sent bytes to a unit, and that the bytes of a write come in their order (`writes`, `wrote`).
pub mod Arrivals
pub mod Turns
pub mod Rows
pub mod Facts
pub mod Premises
pub mod Written
