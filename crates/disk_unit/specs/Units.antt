-- What a unit answers, with the attention of the initiator.
use Rattle.std.specs.Prelude.{◌≡◌, ◌<◌, ℕ, Bool, true, false, List, length, Option, Some, None, if◌then◌else◌}
use Rattle.bus_base.specs.declared.AbortKind.{AbortKind}
use Rattle.bus_base.specs.declared.AbortKind.TheVariants as aborts
use Rattle.bus_base.specs.declared.ProcId.{ProcId}
use Rattle.bus_base.specs.declared.events.Class.{Class}
use Rattle.cdb_codec.specs.declared.Sense.{Sense}
use Rattle.array_model.specs.declared.entries.Entry.{Entry}
use Rattle.array_model.specs.Execution.{Reply, check_condition, heeds_attention}
use Rattle.disk_unit.specs.declared.media.Extent.{Extent}
use Rattle.disk_unit.specs.declared.unit.Reply.{Reply as UnitReply}
use Rattle.disk_unit.specs.declared.unit.Accepted.{Accepted}
use Rattle.disk_unit.specs.declared.unit.Accepted.TheVariants as accepted
use Rattle.tag_queue.specs.Queue.{has_key}
use Rattle.disk_unit.specs.Books.{UnitBooks, IsCleared, block_at, attention_at, books_with, books_without_attention}
use Rattle.disk_unit.specs.Books.{books_after_abort, books_after_abort_tag, books_after_reset}
use Rattle.disk_unit.specs.Plans.{sense_if, plan_of}
use Rattle.disk_unit.specs.declared.media.Plan.{Plan}

-- The attention is reported.
abbrev pub is_reported : Option Sense → List ℕ → Bool
is_reported None cdb = false
is_reported (Some attention) cdb = heeds_attention cdb

abbrev pub reply_with : Option Sense → List ℕ → Reply → Reply
reply_with None cdb reply = reply
reply_with (Some attention) cdb reply = if heeds_attention cdb then check_condition attention else reply

abbrev pub entry_with : ProcId → ℕ → Option ℕ → Class → Extent → Entry
entry_with id from tag class extent = record {
  id = id;
  from = from;
  tag = tag;
  class = class;
  first = extent.first;
  count = extent.count;
  writes = extent.writes;
}

abbrev pub told_of : Reply → UnitReply
told_of reply = record { status = reply.status; len = length reply.bytes; sense = sense_if reply }

-- As its command would end.
abbrev pub planned_reply : Plan → UnitReply
planned_reply plan = record { status = plan.status; len = plan.in_len; sense = plan.sense }

-- How a command arrives, by whether it is a REQUEST SENSE without fault; these are the books before and after it.
abbrev pub IsAccepted : Bool → UnitBooks → Entry → List ℕ → UnitBooks → Accepted → Type 0
IsAccepted true old entry cdb new accepted.AtOnce = new ≡ old
IsAccepted true old entry cdb new (accepted.Queued key) = ⊥
IsAccepted true old entry cdb new accepted.Full = ⊥
IsAccepted false old entry cdb new accepted.AtOnce = ⊥
IsAccepted false old entry cdb new (accepted.Queued key) = (length old.queue.arrived < old.queue.depth)
    × (has_key old.queue.arrived key ≡ false) × (key < length old.blocks) × (new ≡ books_with old key entry cdb)
IsAccepted false old entry cdb new accepted.Full = (length old.queue.arrived ≡ old.queue.depth) × (new ≡ old)

abbrev pub books_if_reported : UnitBooks → Bool → ℕ → UnitBooks
books_if_reported b true dev = books_without_attention b dev
books_if_reported b false dev = b

-- What the command of this key would answer, where the medium answers this and takes so many bytes.
abbrev pub unit_reply : UnitBooks → ℕ → Reply → Reply
unit_reply b key reply = reply_with (attention_at b key) (block_at b key) reply

abbrev pub bytes_taken : UnitBooks → ℕ → ℕ → ℕ
bytes_taken b key taken = if is_reported (attention_at b key) (block_at b key) then 0 else taken

abbrev pub unit_plan : UnitBooks → ℕ → Reply → ℕ → Plan
unit_plan b key reply taken = plan_of (unit_reply b key reply) (bytes_taken b key taken)

-- The same of a command of an initiator with this attention.
abbrev pub plan_for : Option Sense → List ℕ → Reply → ℕ → Plan
plan_for attention cdb reply taken =
    plan_of (reply_with attention cdb reply) (if is_reported attention cdb then 0 else taken)

-- The books before and after an abort of an initiator.
abbrev pub IsAborted : AbortKind → ℕ → UnitBooks → UnitBooks → Type 0
IsAborted aborts.All by old new = new ≡ books_after_abort old by
IsAborted (aborts.Tag n) by old new = new ≡ books_after_abort_tag old by n
IsAborted aborts.WholeQueue by old new = IsCleared by old new
IsAborted aborts.Device by old new = new ≡ books_after_reset old
