-- A calling is in vain where its device is absent, or a fault struck its IDs (6.1.3, 6.1.3.1).
pub mod Facts
pub mod Present
pub mod Unheard
