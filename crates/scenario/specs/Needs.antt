-- How many bytes a command needs: those that its command descriptor block moves.
use Rattle.std.specs.Prelude.{ℕ, ◌+◌, ◌-◌, ◌*◌, ◌^◌, min, Bool, true, false, List, Option, Some, None, Result, Ok, Err}
use Rattle.std.specs.Prelude.{nat_le, if◌then◌else◌}
use Rattle.cdb_codec.specs.declared.command.Command.{Command}
use Rattle.cdb_codec.specs.declared.command.Command.TheVariants as commands
use Rattle.cdb_codec.specs.declared.command.CdbFault.{CdbFault}
use Rattle.cdb_codec.specs.declared.tape_command.TapeCommand.{TapeCommand}
use Rattle.cdb_codec.specs.declared.tape_command.TapeCommand.TheVariants as tapes
use Rattle.cdb_codec.specs.declared.replies.TheConstants.{SENSE_LEN, INQUIRY_LEN, CAPACITY_LEN}
use Rattle.cdb_codec.specs.Cdb.{command_of}
use Rattle.cdb_codec.specs.TapeCdb.{tape_command_of}
use Rattle.cdb_codec.specs.Blocks.{blocks_moved}
-- A write of blocks without fault. Of the commands of a tape it names exactly those that write blocks
-- (`readings_agree` of `cdb_codec`), so it serves at each unit.
pub use Rattle.cdb_codec.specs.Kinds.{is_write}
use Rattle.scenario.specs.declared.value.UnitDef.{UnitDef}
use Rattle.scenario.specs.declared.value.CmdDef.{CmdDef}
use Rattle.scenario.specs.Value.{ScenarioValue}
use Rattle.scenario.specs.Lookups.{has_target, unit_of, is_tape}

-- The bytes of n blocks from block lba on: none where the unit is absent, or has not all of them.
abbrev pub block_bytes : Option UnitDef → ℕ → ℕ → ℕ
block_bytes None lba n = 0
block_bytes (Some u) lba n = if nat_le (lba + n) u.blocks then n * u.size else 0

-- The bytes of READ CAPACITY, or none where the unit is absent.
abbrev pub capacity_len : Option UnitDef → ℕ
capacity_len None = 0
capacity_len (Some u) = CAPACITY_LEN

-- The bytes that a command moves at this unit of a target that is there: sense and inquiry data, also where the unit is
-- absent; and those of the blocks that it reads or writes.
abbrev pub moved : Command → Option UnitDef → ℕ
moved commands.TestUnitReady unit = 0
moved (commands.RequestSense room) unit = min room SENSE_LEN
moved (commands.Read6 lba count) unit = block_bytes unit lba (blocks_moved (commands.Read6 lba count))
moved (commands.Write6 lba count) unit = block_bytes unit lba (blocks_moved (commands.Write6 lba count))
moved (commands.Inquiry room) unit = min room INQUIRY_LEN
moved commands.ReadCapacity unit = capacity_len unit
moved (commands.Read10 lba count) unit = block_bytes unit lba count
moved (commands.Write10 lba count) unit = block_bytes unit lba count

-- None where the block has a fault.
abbrev pub moved_by : Result Command CdbFault → Option UnitDef → ℕ
moved_by (Ok command) unit = moved command unit
moved_by (Err fault) unit = 0

-- The bytes of n blocks of a tape, wherever it stands.
abbrev pub counted_bytes : Option UnitDef → ℕ → ℕ
counted_bytes None n = 0
counted_bytes (Some u) n = n * u.size

-- The bytes that a command of a tape asks for: sense and inquiry data, and those of the blocks that it counts. A read
-- moves fewer where it meets a filemark or the end of the data, and a write none where the tape has no room.
abbrev pub tape_moved : TapeCommand → Option UnitDef → ℕ
tape_moved tapes.TestUnitReady unit = 0
tape_moved tapes.Rewind unit = 0
tape_moved (tapes.RequestSense room) unit = min room SENSE_LEN
tape_moved (tapes.Read count) unit = counted_bytes unit count
tape_moved (tapes.Write count) unit = counted_bytes unit count
tape_moved (tapes.Inquiry room) unit = min room INQUIRY_LEN
tape_moved (tapes.Filemarks count) unit = 0
tape_moved (tapes.Space code count) unit = 0

-- None where the block has a fault.
abbrev pub tape_moved_by : Result TapeCommand CdbFault → Option UnitDef → ℕ
tape_moved_by (Ok command) unit = tape_moved command unit
tape_moved_by (Err fault) unit = 0

-- The bytes that a command block needs at this unit of a target that is there: a tape, or a disk or no unit at all.
abbrev pub need_at : Bool → List ℕ → Option UnitDef → ℕ
need_at true cdb unit = tape_moved_by (tape_command_of cdb) unit
need_at false cdb unit = moved_by (command_of cdb) unit

-- The bytes that a command of a scenario needs: none where its block has a fault, or its target is
-- absent.
unfoldable pub need_of : ScenarioValue → CmdDef → ℕ
need_of s c =
    if has_target s c.target then need_at (is_tape s c.target c.unit) c.cdb (unit_of s c.target c.unit) else 0

-- The bytes that the initiator of a command has to send: what a write needs.
unfoldable pub sent_of : ScenarioValue → CmdDef → ℕ
sent_of s c = if is_write (command_of c.cdb) then need_of s c else 0

-- As far as a u32 counts them.
abbrev pub sent_count : ScenarioValue → CmdDef → ℕ
sent_count s c = min (sent_of s c) (2 ^ 32 - 1)
