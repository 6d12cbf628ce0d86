-- The data that a target returns.
use Rattle.std.specs.Prelude.{ℕ, ◌*◌, ◌/◌, ◌%◌, ◌^◌, ◌<◌, ◌≡◌, bit_or, Bool, List, [], ◌∷◌, ◌++◌, slice_index}
use Rattle.std.specs.Prelude.{Option, Some, None, IfSome, nat_lt, codes, if◌then◌else◌}
use Rattle.byteorder.specs.Endian.{big_bytes, big_number}
use Rattle.cdb_codec.specs.declared.command.Sense.{Sense}

-- A sense that names no marks and no residue, as each of a disk is.
abbrev pub plain_sense : ℕ → ℕ → ℕ → Sense
plain_sense key asc ascq = record { key = key; asc = asc; ascq = ascq; marks = 0x00; residue = None }

-- Each number fits its bits of sense data: the key four, the marks the two high ones of a byte, each code a byte, and
-- the residue four bytes.
abbrev pub FitsSense : Sense → Type 0
FitsSense sense = (sense.key < 16) × (sense.asc < 256) × (sense.ascq < 256) × (sense.marks % 64 ≡ 0)
    × (sense.marks < 256) × IfSome sense.residue (λ n. n < 2 ^ 32)

-- Byte 0: a current error (70), and bit 7 where the information is valid.
abbrev pub error_of : Option ℕ → ℕ
error_of None = 0x70
error_of (Some residue) = 0xf0

-- The information of a residue; 0 where it is not valid.
abbrev pub information_of : Option ℕ → ℕ
information_of None = 0
information_of (Some residue) = residue

-- Sense data: a current error, the marks and the sense key in one byte, the information in four, ten bytes more
-- after byte 7 (0a), and the additional sense code with its qualifier; all else 00.
abbrev pub sense_data : Sense → List ℕ
sense_data sense = error_of sense.residue ∷ 0x00 ∷ bit_or sense.marks sense.key ∷ []
    ++ big_bytes 4 (information_of sense.residue) ++ 0x0a ∷ 0x00 ∷ 0x00 ∷ 0x00 ∷ 0x00 ∷ sense.asc ∷ sense.ascq ∷ 0x00
    ∷ 0x00 ∷ 0x00 ∷ 0x00 ∷ []

-- The residue that sense data name: the information, where bit 7 of byte 0 says that it is valid.
abbrev pub residue_in : List ℕ → Option ℕ
residue_in bytes = if nat_lt (slice_index bytes 0) 0x80 then None else Some (big_number 4
    (slice_index bytes 3 ∷ slice_index bytes 4 ∷ slice_index bytes 5 ∷ slice_index bytes 6 ∷ []))

-- The sense that sense data name: the key in the low four bits of byte 2, the marks in its two high ones, and the
-- codes in bytes 12 and 13. Bytes that did not come count as 00.
abbrev pub sense_of_data : List ℕ → Sense
sense_of_data bytes = record {
  key = slice_index bytes 2 % 16;
  asc = slice_index bytes 12;
  ascq = slice_index bytes 13;
  marks = slice_index bytes 2 / 64 * 64;
  residue = residue_in bytes;
}

-- A disk at this unit (00), or a target that has no such unit (7f).
abbrev pub peripheral : Bool → ℕ
peripheral present = if present then 0x00 else 0x7f

-- Inquiry data: what the unit is, fixed blocks, SCSI-2 and its format of these data (02 02), 31
-- bytes more (1f), synchronous transfer and tagged queuing (12), the vendor, the product and its
-- revision.
abbrev pub inquiry_data : Bool → List ℕ
inquiry_data present = peripheral present ∷ 0x00 ∷ 0x02 ∷ 0x02 ∷ 0x1f ∷ 0x00 ∷ 0x00 ∷ 0x12 ∷ [] ++ codes "BUSMODEL"
    ++ codes "SIMULATED DISK  " ++ codes "0001"

-- The inquiry data of a tape: they differ in its type (01), in its medium, which can be taken out (80), and in the
-- product.
abbrev pub tape_inquiry_data : List ℕ
tape_inquiry_data = 0x01 ∷ 0x80 ∷ 0x02 ∷ 0x02 ∷ 0x1f ∷ 0x00 ∷ 0x00 ∷ 0x12 ∷ [] ++ codes "BUSMODEL"
    ++ codes "SIMULATED TAPE  " ++ codes "0001"

-- READ CAPACITY data: the last block and the size of a block, four bytes each, the high byte first.
abbrev pub capacity_data : ℕ → ℕ → List ℕ
capacity_data last size = big_bytes 4 last ++ big_bytes 4 size
