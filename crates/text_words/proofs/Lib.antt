pub mod Digits
pub mod Again
pub mod Only
pub mod FirstFeed
pub mod Tables
