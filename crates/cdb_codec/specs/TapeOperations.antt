-- The operations of a tape and their codes.
use Rattle.std.specs.Prelude.{ℕ, Option, Some, None, ◌==◌, if◌then◌else◌}
use Rattle.cdb_codec.specs.declared.operation.TheConstants.{TEST_UNIT_READY, REQUEST_SENSE, READ_6, WRITE_6, INQUIRY}
use Rattle.cdb_codec.specs.declared.tape_operation.TheConstants.{REWIND, WRITE_FILEMARKS, SPACE}
use Rattle.cdb_codec.specs.declared.tape_operation.TapeOperation.{TapeOperation}
use Rattle.cdb_codec.specs.declared.tape_operation.TapeOperation.TheVariants.{TestUnitReady, Rewind, RequestSense, Read}
use Rattle.cdb_codec.specs.declared.tape_operation.TapeOperation.TheVariants.{Write, Filemarks, Space, Inquiry}

-- What an operation code asks of a tape, if it is one of a tape's. Each has the length of group 0.
abbrev pub tape_operation_of : ℕ → Option TapeOperation
tape_operation_of code =
    if code == TEST_UNIT_READY then Some TestUnitReady
    else if code == REWIND then Some Rewind
    else if code == REQUEST_SENSE then Some RequestSense
    else if code == READ_6 then Some Read
    else if code == WRITE_6 then Some Write
    else if code == WRITE_FILEMARKS then Some Filemarks
    else if code == SPACE then Some Space
    else if code == INQUIRY then Some Inquiry
    else None
