-- What the lines show and what the two ends of a connection drive, row by row (`stood`, `rows_are`): each row of a
-- prompt trace is of one kind, by the stage.
pub mod Phases
pub mod Rows
pub mod Driven
pub mod Kept
pub mod InPhase
pub mod Turns
pub mod Steps
pub mod Crossings
pub mod UnderRst
pub mod First
pub mod Called
pub mod Plans
pub mod Joint
pub mod Attention
pub mod Connections
pub mod UndoneLeavings
