pub mod Alike
pub mod Agreeing
pub mod Courses
pub mod CourseBegins
pub mod CourseAgrees
pub mod CourseRows
pub mod ReplyRows
mod Places
pub mod Fits
mod Dues
pub mod Heard
pub mod ServedEnds
pub mod ProgressRows
mod HeardOpenings
pub mod NegotiatedRows
pub mod GatheredRows
mod GatheredWhole
pub mod GatheredSteps
mod GatheredMore
pub mod GatheredAll
