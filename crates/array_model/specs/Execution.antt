-- What a command does at a unit, and what it answers (7.2, 7.3, 7.5, 8.2, 9.2).
use Rattle.std.specs.Prelude.{ℕ, ◌+◌, ◌-◌, min, Bool, true, false, not, ◌&&◌, ◌==◌, List, [], length, take, slice_index}
use Rattle.std.specs.Prelude.{Option, Some, None, Result, Ok, Err, nat_le, nat_lt, if◌then◌else◌}
use Rattle.cdb_codec.specs.declared.Sense.{Sense}
use Rattle.cdb_codec.specs.declared.operation.TheConstants.{REQUEST_SENSE, INQUIRY}
use Rattle.cdb_codec.specs.declared.replies.TheConstants.{SENSE_LEN, INQUIRY_LEN}
use Rattle.cdb_codec.specs.declared.command.Command.{Command}
use Rattle.cdb_codec.specs.declared.command.Command.TheVariants as commands
use Rattle.cdb_codec.specs.declared.command.CdbFault.{CdbFault}
use Rattle.cdb_codec.specs.declared.command.CdbFault.TheVariants as faults
use Rattle.cdb_codec.specs.Cdb.{command_of}
use Rattle.cdb_codec.specs.Blocks.{blocks_moved}
-- REQUEST SENSE without fault. A tape reads the same blocks as such (`readings_agree` of `cdb_codec`), so it serves at
-- each unit.
pub use Rattle.cdb_codec.specs.Kinds.{is_request_sense}
use Rattle.cdb_codec.specs.Replies.{sense_data, inquiry_data, capacity_data}
use Rattle.cdb_codec.specs.TapeCdb.{tape_command_of}
use Rattle.array_model.specs.Contents.{Contents, bytes_at, with_bytes}
use Rattle.array_model.specs.Reels.{Reel}
pub use Rattle.array_model.specs.Replies.{Reply, sense_of, no_sense, good, check_condition, queue_full, aborted_reply}
pub use Rattle.array_model.specs.Replies.{invalid_opcode, block_out_of_range, invalid_field, unit_not_supported}
pub use Rattle.array_model.specs.Replies.{reset_occurred, commands_cleared}
use Rattle.array_model.specs.TapeExecution.{Tape, TapeExecution, tape_cdb_execution}

-- ---- the unit that a command meets

pub record CommandContext : Type 0 where
  -- whether the unit is there
  pub present : Bool
  pub contents : Contents
  -- the sense that is stored for the initiator, and the attention that is pending for it
  pub stored : Option Sense
  pub attention : Option Sense

-- What the command did to the contents, whether it reported the attention, and its reply.
pub record Execution : Type 0 where
  pub contents : Contents
  pub reported : Bool
  pub reply : Reply

-- ---- the checks, in their order: the unit is absent, an attention is pending, the operation code, a field, and at a
-- disk the range of blocks

abbrev pub is_opcode : List ℕ → ℕ → Bool
is_opcode cdb code = not (length cdb == 0) && slice_index cdb 0 == code

-- INQUIRY ignores an absent unit and an attention; REQUEST SENSE ignores an attention, and without fault an absent
-- unit.
abbrev pub needs_unit : List ℕ → Bool
needs_unit cdb = not (is_opcode cdb INQUIRY) && not (is_request_sense (command_of cdb))

abbrev pub heeds_attention : List ℕ → Bool
heeds_attention cdb = not (is_opcode cdb INQUIRY) && not (is_opcode cdb REQUEST_SENSE)

-- The blocks that a read or a write names: the first, and how many.
abbrev pub range_of : Command → Option (ℕ × ℕ)
range_of (commands.Read6 lba count) = Some (lba, blocks_moved (commands.Read6 lba count))
range_of (commands.Write6 lba count) = Some (lba, blocks_moved (commands.Write6 lba count))
range_of (commands.Read10 lba count) = Some (lba, count)
range_of (commands.Write10 lba count) = Some (lba, count)
range_of commands.TestUnitReady = None
range_of (commands.RequestSense room) = None
range_of (commands.Inquiry room) = None
range_of commands.ReadCapacity = None

-- A range is good where its first block is one of the unit's, and it goes not past the last.
abbrev pub is_good_range : ℕ → Option (ℕ × ℕ) → Bool
is_good_range blocks None = true
is_good_range blocks (Some r) = nat_lt r.0 blocks && nat_le (r.0 + r.1) blocks

-- ---- what a command without fault does

-- The stored sense; without one, none at a unit that is there, and the sense of an absent unit at another.
abbrev pub returned_sense : Bool → Option Sense → Sense
returned_sense present (Some sense) = sense
returned_sense true None = no_sense
returned_sense false None = unit_not_supported

abbrev pub reply_execution : CommandContext → Reply → Execution
reply_execution m reply = record { contents = m.contents; reported = false; reply = reply }

abbrev pub write_execution : CommandContext → ℕ → ℕ → List ℕ → Execution
write_execution m lba n sent = record { contents = with_bytes m.contents lba n sent; reported = false; reply = good [] }

abbrev pub command_execution : CommandContext → Command → List ℕ → Execution
command_execution m commands.TestUnitReady sent = reply_execution m (good [])
command_execution m (commands.RequestSense room) sent =
    reply_execution m (good (take (min room SENSE_LEN) (sense_data (returned_sense m.present m.stored))))
command_execution m (commands.Read6 lba count) sent =
    reply_execution m (good (bytes_at m.contents lba (blocks_moved (commands.Read6 lba count))))
command_execution m (commands.Write6 lba count) sent =
    write_execution m lba (blocks_moved (commands.Write6 lba count)) sent
command_execution m (commands.Inquiry room) sent =
    reply_execution m (good (take (min room INQUIRY_LEN) (inquiry_data m.present)))
command_execution m commands.ReadCapacity sent =
    reply_execution m (good (capacity_data (m.contents.count - 1) m.contents.size))
command_execution m (commands.Read10 lba count) sent = reply_execution m (good (bytes_at m.contents lba count))
command_execution m (commands.Write10 lba count) sent = write_execution m lba count sent

abbrev pub range_execution : CommandContext → Command → List ℕ → Execution
range_execution m c sent =
    if is_good_range m.contents.count (range_of c) then command_execution m c sent
    else reply_execution m (check_condition block_out_of_range)

abbrev pub cdb_execution : CommandContext → Result Command CdbFault → List ℕ → Execution
cdb_execution m (Ok c) sent = range_execution m c sent
cdb_execution m (Err faults.Opcode) sent = reply_execution m (check_condition invalid_opcode)
cdb_execution m (Err faults.Length) sent = reply_execution m (check_condition invalid_field)
cdb_execution m (Err faults.Field) sent = reply_execution m (check_condition invalid_field)

-- ---- a disk or a tape

-- The tape that stands in the contents, of which this is the reel.
abbrev pub tape_in : Contents → Reel → Tape
tape_in c r = record { capacity = c.count; size = c.size; reel = r }

abbrev pub tape_contents : Tape → Contents
tape_contents t = record { count = t.capacity; size = t.size; touched = []; reel = Some t.reel }

-- With what a tape made of its reel.
abbrev pub reel_execution : CommandContext → TapeExecution → Execution
reel_execution m x =
    record { contents = record m.contents { reel = Some x.reel }; reported = false; reply = x.reply }

-- An absent unit is as a disk.
abbrev pub unit_execution : CommandContext → Option Reel → List ℕ → List ℕ → Execution
unit_execution m None cdb sent = cdb_execution m (command_of cdb) sent
unit_execution m (Some r) cdb sent = reel_execution m
    (tape_cdb_execution (tape_in m.contents r) (returned_sense m.present m.stored) (tape_command_of cdb) sent)

abbrev pub attention_execution : CommandContext → Option Sense → List ℕ → List ℕ → Execution
attention_execution m None cdb sent = unit_execution m m.contents.reel cdb sent
attention_execution m (Some attention) cdb sent =
    if heeds_attention cdb then record { contents = m.contents; reported = true; reply = check_condition attention }
    else unit_execution m m.contents.reel cdb sent

-- What a command does at the unit that it meets, with the bytes that it sends.
abbrev pub execution : CommandContext → List ℕ → List ℕ → Execution
execution m cdb sent =
    if not m.present && needs_unit cdb then reply_execution m (check_condition unit_not_supported)
    else attention_execution m m.attention cdb sent
