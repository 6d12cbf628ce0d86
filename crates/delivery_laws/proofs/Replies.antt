-- Which reply a command is given, and that it stays.
pub mod Valid
pub mod Ends
pub mod Checks
pub mod Senses
pub mod Lasting
pub mod Given
pub mod Invalid
