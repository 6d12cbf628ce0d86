-- A target leaves a phase as it is due to: so it tries again, or gives up, as the table says.
pub mod Rows
pub mod Struck
pub mod GiveUps
