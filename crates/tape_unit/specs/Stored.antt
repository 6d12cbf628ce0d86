-- The objects of a tape, as they are kept: the bytes of all its blocks one after the other, and of each object whether
-- it is a filemark and how many blocks stand before it.
use Rattle.std.specs.Prelude.{◌≡◌, ℕ, zero, suc, ◌+◌, ◌-◌, ◌*◌, ◌≤◌, min, Bool, true, false, List, [], ◌∷◌, length}
use Rattle.std.specs.Prelude.{take, drop, reverse, if◌then◌else◌}
use Rattle.cdb_codec.specs.TapeCdb.{tape_command_of}
use Rattle.tape_unit.specs.declared.stored.StoredObject.{StoredObject}
use Rattle.array_model.specs.Reels.{Object, block, filemark, blocks_of}
use Rattle.array_model.specs.TapeExecution.{Tape}
use Rattle.tape_unit.specs.Tape.{with_objects, tape_after, blocks_taken}

-- What a user sees: the tape, and how many blocks may still be added.
pub record Store : Type 0 where
  pub tape : Tape
  pub spare : ℕ

abbrev pub with_tape : Store → Tape → Store
with_tape s t = record { tape = t; spare = s.spare }

-- With so many blocks more behind the last object; the position stays.
abbrev pub with_blocks : Store → ℕ → List ℕ → Store
with_blocks s n bytes = record { tape = with_objects s.tape (blocks_of s.tape.size n bytes); spare = s.spare - n }

-- After a command, where nothing is stored for its initiator.
abbrev pub store_after : Store → List ℕ → List ℕ → Store
store_after s cdb sent =
    record { tape = tape_after s.tape cdb sent; spare = s.spare - blocks_taken s.tape (tape_command_of cdb) }

-- ---- as it is kept

abbrev pub marks_in : List StoredObject → List Bool
marks_in [] = []
marks_in (o ∷ stored) = o.is_filemark ∷ marks_in stored

-- Which of them are filemarks, from the first one on or from the last one back.
abbrev pub seen : Bool → List StoredObject → List Bool
seen true stored = marks_in stored
seen false stored = reverse (marks_in stored)

-- How many of them are blocks.
abbrev pub blocks_in : List StoredObject → ℕ
blocks_in [] = 0
blocks_in (o ∷ stored) = if o.is_filemark then blocks_in stored else suc (blocks_in stored)

abbrev pub objects_of : ℕ → List StoredObject → List ℕ → List Object
objects_of size [] bytes = []
objects_of size (o ∷ stored) bytes =
    if o.is_filemark then filemark ∷ objects_of size stored bytes
    else block (take size bytes) ∷ objects_of size stored (drop size bytes)

-- Each has the number of blocks before it, where so many stand before the first.
abbrev pub AreCounted : ℕ → List StoredObject → Type 0
AreCounted before [] = Unit {0}
AreCounted before (o ∷ stored) =
    (o.before ≡ before) × AreCounted (if o.is_filemark then before else suc before) stored

-- So many blocks, or filemarks, where so many blocks stand before them.
abbrev pub block_entries : ℕ → ℕ → List StoredObject
block_entries before zero = []
block_entries before (suc n) = record { is_filemark = false; before = before } ∷ block_entries (suc before) n

abbrev pub filemark_entries : ℕ → ℕ → List StoredObject
filemark_entries before zero = []
filemark_entries before (suc n) = record { is_filemark = true; before = before } ∷ filemark_entries before n

pub record IsStored (capacity size spare position : ℕ) (stored : List StoredObject) (bytes : List ℕ)
    (room byte_room : ℕ) : Type 0 where
  pub most : capacity ≤ 65536
  pub some_size : 1 ≤ size
  pub most_size : size ≤ 2048
  pub within : position ≤ length stored
  pub fits : length stored ≤ capacity
  pub counted : AreCounted 0 stored
  pub whole : length bytes ≡ blocks_in stored * size
  pub objects_fit : capacity ≤ room
  pub bytes_fit : min (blocks_in stored + spare) capacity * size ≤ byte_room
