pub mod HostBuffer
pub mod Pointers
