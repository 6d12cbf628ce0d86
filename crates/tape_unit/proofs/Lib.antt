mod Ahead
mod Cases
pub mod Drives
mod StoredObjects
mod StoredTapes
mod Walks
mod Written
