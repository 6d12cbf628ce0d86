pub mod Operations
pub mod Cdb
pub mod FaultText
pub mod Blocks
pub mod Replies
pub mod TapeOperations
pub mod TapeCdb
pub mod Kinds
