-- What connections that are over leave in a transcript: their items show their events, and those before stay as they
-- are.
pub mod Events
pub mod Closings
pub mod Own
pub mod Others
pub mod Histories
