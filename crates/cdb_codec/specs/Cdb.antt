-- What a command descriptor block says, and how a command is written as one.
use Rattle.std.specs.Prelude.{ℕ, ◌+◌, ◌*◌, ◌/◌, ◌%◌, ◌^◌, ◌<◌, Bool, false, ◌||◌, List, [], ◌∷◌, ◌++◌, length, drop}
use Rattle.std.specs.Prelude.{slice_index, slice_set, Option, Some, None, Result, Ok, Err, nat_lt, ◌==◌, if◌then◌else◌}
use Rattle.std.specs.List.{list_all}
use Rattle.byteorder.specs.Endian.{big_bytes, big_number}
use Rattle.cdb_codec.specs.declared.command.Command.{Command}
use Rattle.cdb_codec.specs.declared.command.Command.TheVariants.{TestUnitReady, RequestSense, Read6, Write6, Inquiry}
use Rattle.cdb_codec.specs.declared.command.Command.TheVariants.{ReadCapacity, Read10, Write10}
use Rattle.cdb_codec.specs.declared.command.CdbFault.{CdbFault}
use Rattle.cdb_codec.specs.declared.command.CdbFault.TheVariants.{Opcode, Length, Field}
use Rattle.cdb_codec.specs.declared.operation.TheConstants.{TEST_UNIT_READY, REQUEST_SENSE, READ_6, WRITE_6, INQUIRY}
use Rattle.cdb_codec.specs.declared.operation.TheConstants.{READ_CAPACITY, READ_10, WRITE_10}
use Rattle.cdb_codec.specs.declared.operation.Operation.{Operation}
use Rattle.cdb_codec.specs.declared.operation.Operation.TheVariants as operations
use Rattle.cdb_codec.specs.Operations.{operation_of}

-- The length of a block by its first byte, whose three high bits are the group: six bytes in
-- group 0, ten in group 1; no command of the other groups is known here.
abbrev pub group_len : ℕ → Option ℕ
group_len first = if nat_lt first 0x20 then Some 6 else if nat_lt first 0x40 then Some 10 else None

-- The number that a command's fields can hold: READ(6) and WRITE(6) have 21 bits for the block. The
-- other fields hold each value of the command's type.
abbrev pub FitsCdb : Command → Type 0
FitsCdb (Read6 lba count) = lba < 2 ^ 21
FitsCdb (Write6 lba count) = lba < 2 ^ 21
FitsCdb _ = Unit {0}

-- The numbers of READ(10) and WRITE(10) are below the limits of their types, as in a program they
-- always are: 32 bits for the block, 16 for the count.
abbrev pub FitsTypes : Command → Type 0
FitsTypes (Read10 lba count) = (lba < 2 ^ 32) × (count < 2 ^ 16)
FitsTypes (Write10 lba count) = (lba < 2 ^ 32) × (count < 2 ^ 16)
FitsTypes _ = Unit {0}

-- Six bytes: the operation code, the block in the low five bits of byte 1 and in bytes 2 and 3, the
-- high byte first, one byte that is a count or a length, and control 00.
abbrev pub six_bytes : ℕ → ℕ → ℕ → List ℕ
six_bytes code lba last = code ∷ lba / 65536 ∷ lba / 256 % 256 ∷ lba % 256 ∷ last ∷ 0x00 ∷ []

-- Ten bytes: the operation code, 00, the block in bytes 2 to 5, 00, the count in bytes 7 and 8, the
-- high byte first in both, and control 00.
abbrev pub ten_bytes : ℕ → ℕ → ℕ → List ℕ
ten_bytes code lba count = code ∷ 0x00 ∷ [] ++ big_bytes 4 lba ++ 0x00 ∷ [] ++ big_bytes 2 count ++ 0x00 ∷ []

-- The block of a command. A command without a block's number has 0 there.
abbrev pub cdb_bytes : Command → List ℕ
cdb_bytes TestUnitReady = six_bytes TEST_UNIT_READY 0 0
cdb_bytes (RequestSense room) = six_bytes REQUEST_SENSE 0 room
cdb_bytes (Read6 lba count) = six_bytes READ_6 lba count
cdb_bytes (Write6 lba count) = six_bytes WRITE_6 lba count
cdb_bytes (Inquiry room) = six_bytes INQUIRY 0 room
cdb_bytes ReadCapacity = ten_bytes READ_CAPACITY 0 0
cdb_bytes (Read10 lba count) = ten_bytes READ_10 lba count
cdb_bytes (Write10 lba count) = ten_bytes WRITE_10 lba count

-- The length, where there is one, is n.
abbrev pub is_len : Option ℕ → ℕ → Bool
is_len None n = false
is_len (Some len) n = len == n

-- The bytes are as many as the group of the first one has.
abbrev pub has_group_len : List ℕ → Bool
has_group_len bytes = is_len (group_len (slice_index bytes 0)) (length bytes)

-- Each of these bytes is 0.
abbrev pub are_zero : List ℕ → Bool
are_zero bytes = list_all (λ byte. byte == 0x00) bytes

-- The command, if each of the bytes that no field names is 0.
abbrev pub where_zero : List ℕ → Command → Result Command CdbFault
where_zero spare command = if are_zero spare then Ok command else Err Field

-- The block's number in 21 bits: the low five of byte 1, and bytes 2 and 3, the high byte first.
abbrev pub lba_6 : List ℕ → ℕ
lba_6 bytes = slice_index bytes 1 % 32 * 65536 + slice_index bytes 2 * 256 + slice_index bytes 3

-- The block's number in bytes 2 to 5, the high byte first.
abbrev pub lba_10 : List ℕ → ℕ
lba_10 bytes = big_number 4 (drop 2 bytes)

-- The count in bytes 7 and 8, the high byte first.
abbrev pub count_10 : List ℕ → ℕ
count_10 bytes = big_number 2 (drop 7 bytes)

-- What no field of REQUEST SENSE and INQUIRY names: all but byte 4. The three high bits of byte 1,
-- once a unit's number, are ignored in each command.
abbrev pub spare_room : List ℕ → List ℕ
spare_room bytes = slice_index bytes 1 % 32 ∷ slice_index bytes 2 ∷ slice_index bytes 3 ∷ slice_index bytes 5 ∷ []

-- What no field of READ(10) and WRITE(10) names: three bits of byte 1, of which bits 4 and 3, DPO
-- and FUA, are ignored too, byte 6 and control.
abbrev pub spare_10 : List ℕ → List ℕ
spare_10 bytes = slice_index bytes 1 % 8 ∷ slice_index bytes 6 ∷ slice_index bytes 9 ∷ []

-- TEST UNIT READY names no byte.
abbrev pub test_unit_ready_of : List ℕ → Result Command CdbFault
test_unit_ready_of bytes = where_zero (slice_index bytes 1 % 32 ∷ slice_index bytes 2 ∷ slice_index bytes 3
    ∷ slice_index bytes 4 ∷ slice_index bytes 5 ∷ []) TestUnitReady

-- REQUEST SENSE has room in byte 4.
abbrev pub request_sense_of : List ℕ → Result Command CdbFault
request_sense_of bytes = where_zero (spare_room bytes) (RequestSense (slice_index bytes 4))

-- READ(6) has the block in bytes 1 to 3 and the count in byte 4, as it stands.
abbrev pub read6_of : List ℕ → Result Command CdbFault
read6_of bytes = where_zero (slice_index bytes 5 ∷ []) (Read6 (lba_6 bytes) (slice_index bytes 4))

-- WRITE(6) as READ(6).
abbrev pub write6_of : List ℕ → Result Command CdbFault
write6_of bytes = where_zero (slice_index bytes 5 ∷ []) (Write6 (lba_6 bytes) (slice_index bytes 4))

-- INQUIRY has room in byte 4.
abbrev pub inquiry_of : List ℕ → Result Command CdbFault
inquiry_of bytes = where_zero (spare_room bytes) (Inquiry (slice_index bytes 4))

-- READ CAPACITY names no byte: RelAdr, the block and PMI must be 0.
abbrev pub read_capacity_of : List ℕ → Result Command CdbFault
read_capacity_of bytes = where_zero
    (slice_index bytes 1 % 32 ∷ slice_index bytes 2 ∷ slice_index bytes 3 ∷ slice_index bytes 4 ∷ slice_index bytes 5
    ∷ slice_index bytes 6 ∷ slice_index bytes 7 ∷ slice_index bytes 8 ∷ slice_index bytes 9 ∷ []) ReadCapacity

-- READ(10) has the block in bytes 2 to 5 and the count in bytes 7 and 8.
abbrev pub read10_of : List ℕ → Result Command CdbFault
read10_of bytes = where_zero (spare_10 bytes) (Read10 (lba_10 bytes) (count_10 bytes))

-- WRITE(10) as READ(10).
abbrev pub write10_of : List ℕ → Result Command CdbFault
write10_of bytes = where_zero (spare_10 bytes) (Write10 (lba_10 bytes) (count_10 bytes))

-- The command of an operation by its fields, where the length is right.
abbrev pub fields_of : Operation → List ℕ → Result Command CdbFault
fields_of operations.TestUnitReady bytes = test_unit_ready_of bytes
fields_of operations.RequestSense bytes = request_sense_of bytes
fields_of operations.Read6 bytes = read6_of bytes
fields_of operations.Write6 bytes = write6_of bytes
fields_of operations.Inquiry bytes = inquiry_of bytes
fields_of operations.ReadCapacity bytes = read_capacity_of bytes
fields_of operations.Read10 bytes = read10_of bytes
fields_of operations.Write10 bytes = write10_of bytes

-- The same with the operation, if it is one of ours, and the length still to be looked at.
abbrev pub sized_of : Option Operation → List ℕ → Result Command CdbFault
sized_of None bytes = Err Opcode
sized_of (Some operation) bytes = if has_group_len bytes then fields_of operation bytes else Err Length

-- The fault that applies first: no bytes, or an operation code that is none of ours, or a length
-- that is not its group's, or a field that is not as it must be; else the command.
abbrev pub command_of : List ℕ → Result Command CdbFault
command_of bytes = if length bytes == 0 then Err Length else sized_of (operation_of (slice_index bytes 0)) bytes

-- The weight of the lowest bit of byte 1 that is ignored, by the operation code.
abbrev pub ignored_from : ℕ → ℕ
ignored_from code = if (code == READ_10) || (code == WRITE_10) then 0x08 else 0x20

-- The same bytes with the ignored bits of byte 1 cleared.
abbrev pub without_ignored : List ℕ → List ℕ
without_ignored bytes = slice_set bytes 1 (slice_index bytes 1 % ignored_from (slice_index bytes 0))
