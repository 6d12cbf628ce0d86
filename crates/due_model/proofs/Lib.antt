pub mod Cases
pub mod TapeCases
mod Hearings
mod Items
pub mod Leasts
mod Owns
pub mod Plains
mod Reactions
mod Rights
mod Runs
mod RunCases
mod SeamCases
pub mod Seams
pub mod Stills
mod Traces
pub mod NegotiatedPairs
pub mod SameEvents
pub mod Lookups
