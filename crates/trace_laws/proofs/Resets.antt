-- Who makes a row under RST, or raises it, drives no line but RST from then on (`holds`, `resets`).
pub mod Holds
pub mod Rows
pub mod Facts
