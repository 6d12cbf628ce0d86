-- What a target keeps of a logical unit that is not there, and what it answers for it.
use Rattle.std.specs.Prelude.{◌≡◌, ℕ, ◌<◌, ◌==◌, ◌&&◌, min, Bool, true, false, List, length, take, Option, Some, None}
use Rattle.std.specs.Prelude.{Result, Ok, slice_index_or, slice_set, replicate, if◌then◌else◌}
use Rattle.bus_base.specs.declared.AbortKind.{AbortKind}
use Rattle.bus_base.specs.declared.AbortKind.TheVariants as aborts
use Rattle.cdb_codec.specs.declared.Sense.{Sense}
use Rattle.cdb_codec.specs.declared.command.Command.{Command}
use Rattle.cdb_codec.specs.declared.command.Command.TheVariants as commands
use Rattle.cdb_codec.specs.declared.command.CdbFault.{CdbFault}
use Rattle.cdb_codec.specs.declared.operation.TheConstants.{INQUIRY}
use Rattle.cdb_codec.specs.declared.replies.TheConstants.{SENSE_LEN, INQUIRY_LEN}
use Rattle.cdb_codec.specs.declared.sense.TheConstants.{ILLEGAL_REQUEST}
use Rattle.cdb_codec.specs.declared.status.TheConstants.{GOOD, CHECK_CONDITION}
use Rattle.cdb_codec.specs.Cdb.{command_of}
use Rattle.cdb_codec.specs.Replies.{sense_data, inquiry_data}
use Rattle.array_model.specs.Execution.{Reply, good, check_condition, invalid_field, unit_not_supported, is_opcode}
use Rattle.array_model.specs.Execution.{returned_sense, sense_of}
use Rattle.array_model.specs.Seats.{Seat}
use Rattle.disk_unit.specs.declared.media.Plan.{Plan}
use Rattle.disk_unit.specs.declared.unit.Reply.{Reply as UnitReply}

pub record AbsentState : Type 0 where
  -- by initiator, 0 to 7: its stored sense, and whether it stands in the hold
  pub senses : List (Option Sense)
  pub held : List Bool

-- No unit is at this seat, and this is what its initiators have there.
pub record IsAbsentAt (seat : Seat) (v : AbsentState) : Type 0 where
  pub none : seat.unit ≡ None
  pub eight_senses : length v.senses ≡ 8
  pub eight_held : length v.held ≡ 8
  pub senses : (dev : ℕ) → dev < 8 → slice_index_or v.senses dev None ≡ seat.senses dev
  pub held : (dev : ℕ) → dev < 8 → slice_index_or v.held dev false ≡ seat.hold dev

-- ---- what is kept

-- Before any event, and after a reset.
abbrev pub nothing_kept : AbsentState
nothing_kept = record { senses = replicate 8 None; held = replicate 8 false }

-- An initiator has this sense and stands in the hold, or not.
abbrev pub absent_with : AbsentState → ℕ → Option Sense → Bool → AbsentState
absent_with v dev sense held = record { senses = slice_set v.senses dev sense; held = slice_set v.held dev held }

-- A process ended: a sense is stored; a REQUEST SENSE that ends GOOD takes one away.
abbrev pub absent_by_guest : AbsentState → ℕ → Bool → ℕ → Option Sense → AbsentState
absent_by_guest v dev senses status (Some sense) = absent_with v dev (Some sense) true
absent_by_guest v dev senses status None = if status == GOOD && senses then absent_with v dev None false else v

abbrev pub absent_after_guest : AbsentState → ℕ → UnitReply → Bool → AbsentState
absent_after_guest v dev reply senses = absent_by_guest v dev senses reply.status reply.sense

abbrev pub absent_after_abort : AbortKind → ℕ → AbsentState → AbsentState
absent_after_abort aborts.All by v = absent_with v by None false
absent_after_abort (aborts.Tag n) by v = v
absent_after_abort aborts.WholeQueue by v = v
absent_after_abort aborts.Device by v = nothing_kept

-- ---- what a command answers (7.5.3): INQUIRY and REQUEST SENSE need no unit

-- How much room an INQUIRY has, and a REQUEST SENSE, without fault.
abbrev pub inquiry_room : Result Command CdbFault → Option ℕ
inquiry_room (Ok (commands.Inquiry room)) = Some room
inquiry_room _ = None

abbrev pub sense_room : Result Command CdbFault → Option ℕ
sense_room (Ok (commands.RequestSense room)) = Some room
sense_room _ = None

-- These data as far as there is room, so many bytes at most; or a refusal.
abbrev pub data_or_refusal : Option ℕ → ℕ → List ℕ → Sense → Reply
data_or_refusal None most bytes sense = check_condition sense
data_or_refusal (Some room) most bytes sense = good (take (min room most) bytes)

-- By whether the operation code is that of INQUIRY.
abbrev pub absent_reply_by : Option Sense → Bool → Result Command CdbFault → Reply
absent_reply_by stored true r = data_or_refusal (inquiry_room r) INQUIRY_LEN (inquiry_data false) invalid_field
absent_reply_by stored false r =
    data_or_refusal (sense_room r) SENSE_LEN (sense_data (returned_sense false stored)) unit_not_supported

abbrev pub absent_reply : AbsentState → ℕ → List ℕ → Reply
absent_reply v from cdb = absent_reply_by (slice_index_or v.senses from None) (is_opcode cdb INQUIRY) (command_of cdb)

-- How it would end.
abbrev pub plan_in : Option ℕ → ℕ → ℕ → Plan
plan_in None most asc =
    record { status = CHECK_CONDITION; sense = Some (sense_of ILLEGAL_REQUEST asc 0x00); in_len = 0; out_len = 0 }
plan_in (Some room) most asc = record { status = GOOD; sense = None; in_len = min room most; out_len = 0 }
