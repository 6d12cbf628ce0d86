pub mod Apart
pub mod Hands
pub mod Made
pub mod Tellings
