-- What a block asks for, whatever its fields hold, in each of its two readings.
use Rattle.std.specs.Prelude.{Bool, true, false, Option, Some, None, Result, Ok, Err}
use Rattle.cdb_codec.specs.declared.command.Command.{Command}
use Rattle.cdb_codec.specs.declared.command.Command.TheVariants as commands
use Rattle.cdb_codec.specs.declared.command.CdbFault.{CdbFault}
use Rattle.cdb_codec.specs.declared.tape_command.TapeCommand.{TapeCommand}
use Rattle.cdb_codec.specs.declared.tape_command.TapeCommand.TheVariants as tapes

-- REQUEST SENSE without fault.
abbrev pub is_request_sense : Result Command CdbFault → Bool
is_request_sense (Ok (commands.RequestSense room)) = true
is_request_sense (Ok commands.TestUnitReady) = false
is_request_sense (Ok (commands.Read6 lba count)) = false
is_request_sense (Ok (commands.Write6 lba count)) = false
is_request_sense (Ok (commands.Inquiry room)) = false
is_request_sense (Ok commands.ReadCapacity) = false
is_request_sense (Ok (commands.Read10 lba count)) = false
is_request_sense (Ok (commands.Write10 lba count)) = false
is_request_sense (Err fault) = false

-- A write of blocks without fault.
abbrev pub is_write : Result Command CdbFault → Bool
is_write (Ok commands.TestUnitReady) = false
is_write (Ok (commands.RequestSense room)) = false
is_write (Ok (commands.Read6 lba count)) = false
is_write (Ok (commands.Write6 lba count)) = true
is_write (Ok (commands.Inquiry room)) = false
is_write (Ok commands.ReadCapacity) = false
is_write (Ok (commands.Read10 lba count)) = false
is_write (Ok (commands.Write10 lba count)) = true
is_write (Err fault) = false

-- REQUEST SENSE without fault, as a tape reads it.
abbrev pub is_tape_request_sense : Result TapeCommand CdbFault → Bool
is_tape_request_sense (Ok (tapes.RequestSense room)) = true
is_tape_request_sense (Ok tapes.TestUnitReady) = false
is_tape_request_sense (Ok tapes.Rewind) = false
is_tape_request_sense (Ok (tapes.Read count)) = false
is_tape_request_sense (Ok (tapes.Write count)) = false
is_tape_request_sense (Ok (tapes.Inquiry room)) = false
is_tape_request_sense (Ok (tapes.Filemarks count)) = false
is_tape_request_sense (Ok (tapes.Space code count)) = false
is_tape_request_sense (Err fault) = false

-- A write of blocks without fault, as a tape reads it. WRITE FILEMARKS moves no data and is none.
abbrev pub is_tape_write : Result TapeCommand CdbFault → Bool
is_tape_write (Ok (tapes.Write count)) = true
is_tape_write (Ok tapes.TestUnitReady) = false
is_tape_write (Ok tapes.Rewind) = false
is_tape_write (Ok (tapes.RequestSense room)) = false
is_tape_write (Ok (tapes.Read count)) = false
is_tape_write (Ok (tapes.Inquiry room)) = false
is_tape_write (Ok (tapes.Filemarks count)) = false
is_tape_write (Ok (tapes.Space code count)) = false
is_tape_write (Err fault) = false

-- The command of a disk that a tape carries out too, with the same room: TEST UNIT READY, REQUEST SENSE or INQUIRY.
abbrev pub shared_command : Result Command CdbFault → Option TapeCommand
shared_command (Ok commands.TestUnitReady) = Some tapes.TestUnitReady
shared_command (Ok (commands.RequestSense room)) = Some (tapes.RequestSense room)
shared_command (Ok (commands.Inquiry room)) = Some (tapes.Inquiry room)
shared_command (Ok (commands.Read6 lba count)) = None
shared_command (Ok (commands.Write6 lba count)) = None
shared_command (Ok commands.ReadCapacity) = None
shared_command (Ok (commands.Read10 lba count)) = None
shared_command (Ok (commands.Write10 lba count)) = None
shared_command (Err fault) = None

-- The same of a tape's reading.
abbrev pub tape_shared_command : Result TapeCommand CdbFault → Option TapeCommand
tape_shared_command (Ok tapes.TestUnitReady) = Some tapes.TestUnitReady
tape_shared_command (Ok (tapes.RequestSense room)) = Some (tapes.RequestSense room)
tape_shared_command (Ok (tapes.Inquiry room)) = Some (tapes.Inquiry room)
tape_shared_command (Ok tapes.Rewind) = None
tape_shared_command (Ok (tapes.Read count)) = None
tape_shared_command (Ok (tapes.Write count)) = None
tape_shared_command (Ok (tapes.Filemarks count)) = None
tape_shared_command (Ok (tapes.Space code count)) = None
tape_shared_command (Err fault) = None
