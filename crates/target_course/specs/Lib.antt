pub mod Servings
pub mod Fits
pub mod Alike
pub mod Agreeing
pub mod Courses
pub mod Replies
pub mod States
pub mod Dues
pub mod Plans
pub mod Shown
pub mod Progress
pub mod Negotiated
pub mod Gathered
-- Handed on to the crates above that list this one and not these.
pub use Rattle.target_units.specs.scsi_device
pub use Rattle.target_units
