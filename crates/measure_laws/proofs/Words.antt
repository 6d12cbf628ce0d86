-- What is left to be said: of COMMAND, of MESSAGE OUT and of MESSAGE IN.
pub mod Lengths
pub mod Commands
pub mod Takes
pub mod Voices
pub mod VoiceRows
pub mod Voiced
pub mod Steps
pub mod Rows
