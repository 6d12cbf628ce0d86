pub mod ReadSoFar
mod WrittenSoFar
pub mod Tests
