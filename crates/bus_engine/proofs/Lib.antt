mod Names
pub mod Items
mod Replies
mod Disks
mod EndedPlaces
mod Leftovers
mod Targeted
mod Seams
mod Attendance
pub mod Undone
pub mod ListedReplies
pub mod Settled
pub mod Replied
pub mod Answered
pub mod ReplyRooms
pub mod RanTargets
pub mod Held
pub mod Added
mod HeldAnswers
mod Overs
mod Servable
mod Labels
mod Turned
