-- As DATA IN is left, ATN is true exactly where a byte was struck (`sent`).
pub mod Requests
pub mod Rows
pub mod Stays
pub mod Facts
