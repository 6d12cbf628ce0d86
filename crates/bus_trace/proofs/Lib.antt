pub mod Bits
pub mod Sets
pub mod Without
pub mod OddParity
pub mod Ids
pub mod Devices
pub mod Buses
pub mod OneRow
pub mod Ages
pub mod Views
pub mod Sample
pub mod SameAgreement
pub mod Connections
mod Eight
