pub mod Negotiation
pub mod Exchange
pub mod Rows
