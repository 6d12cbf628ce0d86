-- RST begins by the reset lines alone, and each of them has its row, or falls under RST (6.2.2).
pub mod Calm
pub mod Devices
pub mod Facts
