pub mod Digits
pub mod Words
pub mod Spelling
pub mod Lines
