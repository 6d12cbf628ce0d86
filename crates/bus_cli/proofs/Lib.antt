pub mod TooLong
pub mod Written
pub mod Refusals
pub mod Heard
pub mod Judged
pub mod Dumped
pub mod Transcribed
pub mod Undumped
pub mod KeptRead
mod AllRead
mod LawfulDumps
