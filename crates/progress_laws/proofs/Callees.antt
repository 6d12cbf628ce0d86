-- Each contender of an arbitration has whom to call, after any rows (6.1.2 to 6.1.4).
pub mod Rows
pub mod Others
pub mod First
pub mod Facts
