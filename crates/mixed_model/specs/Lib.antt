pub mod Playing
pub mod Blame
pub mod Answering
