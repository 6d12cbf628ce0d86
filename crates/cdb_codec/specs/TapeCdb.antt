-- What a command descriptor block says to a tape with blocks of one size (clause 10.2).
use Rattle.std.specs.Prelude.{ℕ, ℤ, pos, negsuc, neg_ℤ, ◌≤ℤ◌, ◌<ℤ◌, ◌-◌, ◌*◌, ◌/◌, ◌%◌, ◌^◌, ◌<◌, ◌≡◌, Bool, true, ◌||◌}
use Rattle.std.specs.Prelude.{List, [], ◌∷◌}
use Rattle.std.specs.Prelude.{◌++◌, length, drop, slice_index, slice_set, Option, Some, None, Result, Ok, Err, ◌==◌}
use Rattle.std.specs.Prelude.{if◌then◌else◌}
use Rattle.byteorder.specs.Endian.{big_bytes, big_number, twos_complement}
use Rattle.cdb_codec.specs.declared.command.CdbFault.{CdbFault}
use Rattle.cdb_codec.specs.declared.command.CdbFault.TheVariants.{Opcode, Length, Field}
use Rattle.cdb_codec.specs.declared.tape_command.TapeCommand.{TapeCommand}
use Rattle.cdb_codec.specs.declared.tape_command.TapeCommand.TheVariants.{TestUnitReady, Rewind, RequestSense, Read}
use Rattle.cdb_codec.specs.declared.tape_command.TapeCommand.TheVariants.{Write, Inquiry, Filemarks, Space}
use Rattle.cdb_codec.specs.declared.operation.TheConstants.{TEST_UNIT_READY, REQUEST_SENSE, READ_6, WRITE_6, INQUIRY}
use Rattle.cdb_codec.specs.declared.tape_operation.TheConstants.{REWIND, WRITE_FILEMARKS, SPACE}
use Rattle.cdb_codec.specs.declared.tape_operation.TheConstants.{SPACE_BLOCKS, SPACE_FILEMARKS, SPACE_END_OF_DATA}
use Rattle.cdb_codec.specs.declared.tape_operation.TapeOperation.{TapeOperation}
use Rattle.cdb_codec.specs.declared.tape_operation.TapeOperation.TheVariants as operations
use Rattle.cdb_codec.specs.Cdb.{six_bytes, has_group_len, are_zero, spare_room}
use Rattle.cdb_codec.specs.TapeOperations.{tape_operation_of}

-- What SPACE can move over: blocks, filemarks, or all up to the end of data.
abbrev pub is_space_code : ℕ → Bool
is_space_code code = code == SPACE_BLOCKS || code == SPACE_FILEMARKS || code == SPACE_END_OF_DATA

-- A number of 24 bits, one of them the sign.
abbrev pub FitsSigned24 : ℤ → Type 0
FitsSigned24 n = (neg_ℤ (pos (2 ^ 23)) ≤ℤ n) × (n <ℤ pos (2 ^ 23))

-- The numbers that a command's fields can hold: 24 bits for a count, one of them the sign in SPACE. The
-- other fields hold each value of the command's type.
abbrev pub FitsTape : TapeCommand → Type 0
FitsTape (Read count) = count < 2 ^ 24
FitsTape (Write count) = count < 2 ^ 24
FitsTape (Filemarks count) = count < 2 ^ 24
FitsTape (Space code count) = (is_space_code code ≡ true) × FitsSigned24 count
FitsTape _ = Unit {0}

-- The command, if each of the bytes that no field names is 0.
abbrev pub tape_where_zero : List ℕ → TapeCommand → Result TapeCommand CdbFault
tape_where_zero spare command = if are_zero spare then Ok command else Err Field

-- The low five bits of byte 1. The three high ones, once a unit's number, are ignored in each command.
abbrev pub low_bits : List ℕ → ℕ
low_bits bytes = slice_index bytes 1 % 32

-- Those of them above bit 0, which is Immed in REWIND and WRITE FILEMARKS, and ignored.
abbrev pub above_immed : List ℕ → ℕ
above_immed bytes = low_bits bytes / 2

-- The count in bytes 2 to 4, the high byte first.
abbrev pub count_6 : List ℕ → ℕ
count_6 bytes = big_number 3 (drop 2 bytes)

-- The same in two's complement: backward where it is negative.
abbrev pub signed_count_6 : List ℕ → ℤ
signed_count_6 bytes = twos_complement 3 (count_6 bytes)

-- TEST UNIT READY names no byte.
abbrev pub tape_ready_of : List ℕ → Result TapeCommand CdbFault
tape_ready_of bytes = tape_where_zero (low_bits bytes ∷ slice_index bytes 2 ∷ slice_index bytes 3 ∷ slice_index bytes 4
    ∷ slice_index bytes 5 ∷ []) TestUnitReady

-- REWIND names Immed alone.
abbrev pub rewind_of : List ℕ → Result TapeCommand CdbFault
rewind_of bytes = tape_where_zero (above_immed bytes ∷ slice_index bytes 2 ∷ slice_index bytes 3 ∷ slice_index bytes 4
    ∷ slice_index bytes 5 ∷ []) Rewind

-- REQUEST SENSE has room in byte 4.
abbrev pub tape_request_sense_of : List ℕ → Result TapeCommand CdbFault
tape_request_sense_of bytes = tape_where_zero (spare_room bytes) (RequestSense (slice_index bytes 4))

-- INQUIRY has room in byte 4.
abbrev pub tape_inquiry_of : List ℕ → Result TapeCommand CdbFault
tape_inquiry_of bytes = tape_where_zero (spare_room bytes) (Inquiry (slice_index bytes 4))

-- READ and WRITE say by bit 0 of byte 1, Fixed, that they count blocks. Bit 1 of READ, SILI, must be 0.
abbrev pub fixed_of : List ℕ → TapeCommand → Result TapeCommand CdbFault
fixed_of bytes command =
    if low_bits bytes == 0x01 then tape_where_zero (slice_index bytes 5 ∷ []) command else Err Field

-- READ has the count in bytes 2 to 4.
abbrev pub tape_read_of : List ℕ → Result TapeCommand CdbFault
tape_read_of bytes = fixed_of bytes (Read (count_6 bytes))

-- WRITE as READ.
abbrev pub tape_write_of : List ℕ → Result TapeCommand CdbFault
tape_write_of bytes = fixed_of bytes (Write (count_6 bytes))

-- WRITE FILEMARKS names Immed, and has the count in bytes 2 to 4.
abbrev pub filemarks_of : List ℕ → Result TapeCommand CdbFault
filemarks_of bytes = tape_where_zero (above_immed bytes ∷ slice_index bytes 5 ∷ []) (Filemarks (count_6 bytes))

-- SPACE says in the low three bits of byte 1 what it moves over, and has the count in bytes 2 to 4.
abbrev pub space_of : List ℕ → Result TapeCommand CdbFault
space_of bytes =
    if is_space_code (low_bits bytes)
    then tape_where_zero (slice_index bytes 5 ∷ []) (Space (low_bits bytes) (signed_count_6 bytes)) else Err Field

-- The command of an operation by its fields, where the length is right.
abbrev pub tape_fields_of : TapeOperation → List ℕ → Result TapeCommand CdbFault
tape_fields_of operations.TestUnitReady bytes = tape_ready_of bytes
tape_fields_of operations.Rewind bytes = rewind_of bytes
tape_fields_of operations.RequestSense bytes = tape_request_sense_of bytes
tape_fields_of operations.Read bytes = tape_read_of bytes
tape_fields_of operations.Write bytes = tape_write_of bytes
tape_fields_of operations.Filemarks bytes = filemarks_of bytes
tape_fields_of operations.Space bytes = space_of bytes
tape_fields_of operations.Inquiry bytes = tape_inquiry_of bytes

-- The same with the operation, if it is one of a tape's, and the length still to be looked at.
abbrev pub tape_sized_of : Option TapeOperation → List ℕ → Result TapeCommand CdbFault
tape_sized_of None bytes = Err Opcode
tape_sized_of (Some operation) bytes = if has_group_len bytes then tape_fields_of operation bytes else Err Length

-- The fault that applies first: no bytes, or an operation code that is none of a tape's, or a length
-- that is not its group's, or a field that is not as it must be; else the command.
abbrev pub tape_command_of : List ℕ → Result TapeCommand CdbFault
tape_command_of bytes =
    if length bytes == 0 then Err Length else tape_sized_of (tape_operation_of (slice_index bytes 0)) bytes

-- Six bytes with a count: the operation code, the low bits of byte 1, the count in bytes 2 to 4, the high byte first,
-- and control 00.
abbrev pub counted_bytes : ℕ → ℕ → ℕ → List ℕ
counted_bytes code low count = code ∷ low ∷ [] ++ big_bytes 3 count ++ 0x00 ∷ []

-- The 24 bits of a number in two's complement.
abbrev pub signed_bits : ℤ → ℕ
signed_bits (pos n) = n
signed_bits (negsuc n) = 0xffffff - n

-- The block of a command of a tape: Immed is 0, and counts are of blocks.
abbrev pub tape_cdb_bytes : TapeCommand → List ℕ
tape_cdb_bytes TestUnitReady = six_bytes TEST_UNIT_READY 0 0
tape_cdb_bytes Rewind = six_bytes REWIND 0 0
tape_cdb_bytes (RequestSense room) = six_bytes REQUEST_SENSE 0 room
tape_cdb_bytes (Read count) = counted_bytes READ_6 0x01 count
tape_cdb_bytes (Write count) = counted_bytes WRITE_6 0x01 count
tape_cdb_bytes (Inquiry room) = six_bytes INQUIRY 0 room
tape_cdb_bytes (Filemarks count) = counted_bytes WRITE_FILEMARKS 0x00 count
tape_cdb_bytes (Space code count) = counted_bytes SPACE code (signed_bits count)

-- Byte 1 with its ignored bits cleared, by the operation code: the three high ones, and Immed.
abbrev pub tape_kept_bits : ℕ → ℕ → ℕ
tape_kept_bits code byte =
    if (code == REWIND) || (code == WRITE_FILEMARKS) then byte % 32 / 2 * 2 else byte % 32

-- The same bytes with the ignored bits of byte 1 cleared.
abbrev pub tape_without_ignored : List ℕ → List ℕ
tape_without_ignored bytes = slice_set bytes 1 (tape_kept_bits (slice_index bytes 0) (slice_index bytes 1))
