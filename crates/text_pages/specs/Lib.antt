pub mod AbortText
pub mod Held
pub mod Pages
