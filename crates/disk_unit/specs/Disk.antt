-- What a command does at a disk, but for what is kept for its initiator.
use Rattle.std.specs.Prelude.{ℕ, min, ◌*◌, ◌==◌, Bool, true, List, [], None, Result, Ok, Err, if◌then◌else◌}
use Rattle.cdb_codec.specs.declared.status.TheConstants.{GOOD}
use Rattle.cdb_codec.specs.declared.command.Command.{Command}
use Rattle.cdb_codec.specs.declared.command.Command.TheVariants as commands
use Rattle.cdb_codec.specs.declared.replies.TheConstants.{SENSE_LEN, INQUIRY_LEN}
use Rattle.cdb_codec.specs.Blocks.{blocks_moved}
use Rattle.cdb_codec.specs.declared.command.CdbFault.{CdbFault}
use Rattle.cdb_codec.specs.Cdb.{command_of}
use Rattle.array_model.specs.scenario.specs.Needs.{is_write}
use Rattle.array_model.specs.Contents.{Contents}
use Rattle.array_model.specs.Execution.{Reply, CommandContext, Execution, cdb_execution, command_execution, range_of}
use Rattle.array_model.specs.Execution.{is_good_range}
use Rattle.array_model.specs.Order.{range_in, first_in, count_in}
use Rattle.disk_unit.specs.declared.media.Extent.{Extent}

-- A unit that is there, where nothing is stored or pending for the initiator.
abbrev pub disk_context : Contents → CommandContext
disk_context c = record { present = true; contents = c; stored = None; attention = None }

abbrev pub disk_execution : Contents → List ℕ → List ℕ → Execution
disk_execution c cdb sent = cdb_execution (disk_context c) (command_of cdb) sent

abbrev pub disk_reply : Contents → List ℕ → Reply
disk_reply c cdb = (disk_execution c cdb []).reply

-- The command is carried out.
abbrev pub is_carried_out : Contents → List ℕ → Bool
is_carried_out c cdb = (disk_reply c cdb).status == GOOD

-- It makes the contents new: at a disk where it is carried out.
abbrev pub is_changed : Contents → List ℕ → Bool
is_changed c cdb = is_carried_out c cdb

abbrev pub disk_extent : List ℕ → Extent
disk_extent cdb = record {
  first = first_in (range_in (command_of cdb));
  count = count_in (range_in (command_of cdb));
  writes = is_write (command_of cdb);
}

-- How many blocks a command without fault writes, and how many bytes it gives, with blocks of this size.
abbrev pub written_of : Command → ℕ
written_of c = if is_write (Ok c) then count_in (range_of c) else 0

abbrev pub bytes_in : Command → ℕ → ℕ
bytes_in commands.TestUnitReady size = 0
bytes_in (commands.RequestSense room) size = min room SENSE_LEN
bytes_in (commands.Read6 lba count) size = blocks_moved (commands.Read6 lba count) * size
bytes_in (commands.Write6 lba count) size = 0
bytes_in (commands.Inquiry room) size = min room INQUIRY_LEN
bytes_in commands.ReadCapacity size = 8
bytes_in (commands.Read10 lba count) size = count * size
bytes_in (commands.Write10 lba count) size = 0

-- What comes of a command without fault, and of one that names blocks of the unit.
abbrev pub command_reply : Contents → Command → Reply
command_reply c command = (command_execution (disk_context c) command []).reply

-- How many blocks it writes at a disk of so many, where its blocks are among these.
abbrev pub written_if : ℕ → Command → ℕ
written_if blocks command = if is_good_range blocks (range_of command) then written_of command else 0

-- How many a command writes there: none where it has a fault.
abbrev pub blocks_written : ℕ → Result Command CdbFault → ℕ
blocks_written blocks (Ok command) = written_if blocks command
blocks_written blocks (Err fault) = 0
