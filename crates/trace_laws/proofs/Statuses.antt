-- The status that was carried is that of the reply (`statuses`).
pub mod Leavings
pub mod Carried
pub mod Replies
pub mod Turns
pub mod Talks
pub mod TalkTurns
pub mod Facts
