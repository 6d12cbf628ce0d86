-- What was sent and is open, what is over, and that names find it (`facts.items`, `facts.served`).
pub mod Open
pub mod Aims
pub mod Stays
pub mod Sent
pub mod Over
pub mod Row
pub mod Steps
pub mod Rows
pub mod First
pub mod Facts
pub mod Next
pub mod Fresh
pub mod Served
