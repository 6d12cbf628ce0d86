pub mod Again
pub mod Gets
pub mod Exact
pub mod Spells
pub mod Sample
