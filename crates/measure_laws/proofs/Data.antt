-- A phase of data begins or is left: the bytes of its run are paid, or a run less is to be made.
pub mod OutFalls
pub mod Bytes
pub mod Turns
pub mod Commands
pub mod Ends
pub mod Leavings
pub mod Needs
pub mod Entered
pub mod Left
