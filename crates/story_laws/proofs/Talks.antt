-- What holds of the process of a connection goes on with each row of it, whatever is kept.
pub mod OutMessages
pub mod LastMessages
pub mod Steps
pub mod Rows
pub mod Bytes
pub mod Turns
pub mod First
pub mod InMoves
