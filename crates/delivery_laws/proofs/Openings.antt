-- What an initiator says first is its opening, and an offer is answered.
pub mod Facts
pub mod Offers
