-- A tape as a medium: what a command does there, but for what is kept for its initiator.
use Rattle.std.specs.Prelude.{ℕ, Bool, true, List, [], ◌++◌, take}
pub use Rattle.array_model.specs.Tapes.{tape_done, tape_after, tape_reply, is_carried_out, is_walk, is_changed}
pub use Rattle.array_model.specs.Tapes.{blocks_written, cost_of, blocks_taken, taken_now}
use Rattle.disk_unit.specs.declared.media.Extent.{Extent}
use Rattle.disk_unit.specs.declared.media.Plan.{Plan}
use Rattle.disk_unit.specs.Plans.{plan_of}
use Rattle.array_model.specs.declared.walk.Stop.{Stop}
use Rattle.array_model.specs.Reels.{Object, blank_reel, reel_at}
use Rattle.array_model.specs.TapeExecution.{Tape, with_reel, stop_reply}

abbrev pub blank_tape : ℕ → ℕ → Tape
blank_tape capacity size = record { capacity = capacity; size = size; reel = blank_reel }

-- ---- what a command is made of

-- At this position.
abbrev pub at : Tape → ℕ → Tape
at t position = with_reel t (reel_at t.reel position)

-- Without what stands behind the position.
abbrev pub cut : Tape → Tape
cut t = with_reel t (record { objects = take t.reel.position t.reel.objects; position = t.reel.position })

-- With more objects behind the last one; the position stays.
abbrev pub with_objects : Tape → List Object → Tape
with_objects t more = with_reel t (record { objects = t.reel.objects ++ more; position = t.reel.position })

-- How a walk ends that was to move over some more, and gave so many bytes.
abbrev pub stop_plan : Stop → Bool → ℕ → ℕ → Plan
stop_plan stop forward left n = record (plan_of (stop_reply stop forward left []) 0) { in_len = n }

-- Any two commands of a tape conflict.
abbrev pub tape_extent : Extent
tape_extent = record { first = 0; count = 1; writes = true }
