-- Small things that all rooms use: lists of bytes, look-ups, a row within a connection.
pub mod Lists
pub mod InConnection
pub mod Lookups
