-- How many blocks a command moves.
use Rattle.std.specs.Prelude.{ℕ, ◌==◌, if◌then◌else◌}
use Rattle.cdb_codec.specs.declared.command.Command.{Command}
use Rattle.cdb_codec.specs.declared.command.Command.TheVariants.{Read6, Write6, Read10, Write10}
use Rattle.cdb_codec.specs.declared.tape_command.TapeCommand.{TapeCommand}
use Rattle.cdb_codec.specs.declared.tape_command.TapeCommand.TheVariants as tapes

-- A count of READ(6) or WRITE(6), in which 0 is 256.
abbrev pub blocks_of_6 : ℕ → ℕ
blocks_of_6 count = if count == 0 then 256 else count

-- The blocks that a read or a write moves; another command moves none.
abbrev pub blocks_moved : Command → ℕ
blocks_moved (Read6 lba count) = blocks_of_6 count
blocks_moved (Write6 lba count) = blocks_of_6 count
blocks_moved (Read10 lba count) = count
blocks_moved (Write10 lba count) = count
blocks_moved _ = 0

-- The blocks that a read or a write of a tape names; another command names none. A read moves them all unless it
-- meets a filemark or the end of data.
abbrev pub tape_blocks_named : TapeCommand → ℕ
tape_blocks_named (tapes.Read count) = count
tape_blocks_named (tapes.Write count) = count
tape_blocks_named _ = 0
