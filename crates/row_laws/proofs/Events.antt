-- What an event of the plain disk array keeps of its processes, queues, replies and units.
pub mod Replies
pub mod Kept
pub mod BadReplies
pub mod Processes
pub mod Depths
pub mod Others
pub mod Arriving
pub mod Answered
pub mod Queues
pub mod Units
pub mod Writers
pub mod Queued
