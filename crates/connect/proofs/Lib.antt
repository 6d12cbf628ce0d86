mod FirstBytes
pub mod StepsMade
pub mod AfterRows
pub mod Peers
