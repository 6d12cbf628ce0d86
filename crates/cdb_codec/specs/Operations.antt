-- The operations and their codes.
use Rattle.std.specs.Prelude.{ℕ, Option, Some, None, ◌==◌, if◌then◌else◌}
use Rattle.cdb_codec.specs.declared.operation.TheConstants.{TEST_UNIT_READY, REQUEST_SENSE, READ_6, WRITE_6, INQUIRY}
use Rattle.cdb_codec.specs.declared.operation.TheConstants.{READ_CAPACITY, READ_10, WRITE_10}
use Rattle.cdb_codec.specs.declared.operation.Operation.{Operation}
use Rattle.cdb_codec.specs.declared.operation.Operation.TheVariants.{TestUnitReady, RequestSense, Read6, Write6}
use Rattle.cdb_codec.specs.declared.operation.Operation.TheVariants.{Inquiry, ReadCapacity, Read10, Write10}

-- What an operation code asks for, if it is one of ours.
abbrev pub operation_of : ℕ → Option Operation
operation_of code =
    if code == TEST_UNIT_READY then Some TestUnitReady
    else if code == REQUEST_SENSE then Some RequestSense
    else if code == READ_6 then Some Read6
    else if code == WRITE_6 then Some Write6
    else if code == INQUIRY then Some Inquiry
    else if code == READ_CAPACITY then Some ReadCapacity
    else if code == READ_10 then Some Read10
    else if code == WRITE_10 then Some Write10
    else None

-- How many bytes the block of an operation has.
abbrev pub len_of : Operation → ℕ
len_of TestUnitReady = 6
len_of RequestSense = 6
len_of Read6 = 6
len_of Write6 = 6
len_of Inquiry = 6
len_of ReadCapacity = 10
len_of Read10 = 10
len_of Write10 = 10
