-- What stands on a tape, and how a command moves over it (10.2.4, 10.2.12).
use Rattle.std.specs.Prelude.{◌≡◌, ℕ, zero, suc, ◌+◌, ◌-◌, Bool, true, false, List, [], ◌∷◌, ◌++◌, length, take, drop}
use Rattle.std.specs.Prelude.{reverse}
use Rattle.std.specs.Prelude.{Option, Some, None}
use Rattle.array_model.specs.declared.walk.Walk.{Walk}
use Rattle.array_model.specs.declared.walk.Stop.{Stop}
use Rattle.array_model.specs.declared.walk.Stop.TheVariants as stops

-- A block, by its bytes, or a filemark.
pub data Object : Type 0 where
  block : List ℕ → Object
  filemark : Object

-- The objects from the beginning of the medium on, and how many of them stand before the position.
pub record Reel : Type 0 where
  pub objects : List Object
  pub position : ℕ

abbrev pub blank_reel : Reel
blank_reel = record { objects = []; position = 0 }

-- ---- which objects are filemarks

abbrev pub is_filemark : Object → Bool
is_filemark (block bytes) = false
is_filemark filemark = true

abbrev pub filemarks_in : List Object → List Bool
filemarks_in [] = []
filemarks_in (object ∷ objects) = is_filemark object ∷ filemarks_in objects

-- Forward from this place on, or backward from it, the nearest first.
abbrev pub way : List Bool → ℕ → Bool → List Bool
way marks position true = drop position marks
way marks position false = reverse (take position marks)

abbrev pub way_from : Reel → Bool → List Bool
way_from r forward = way (filemarks_in r.objects) r.position forward

-- The bytes of the block at this place; none where a filemark stands there, or nothing.
abbrev pub block_in : Object → Option (List ℕ)
block_in (block bytes) = Some bytes
block_in filemark = None

abbrev pub block_at : List Object → ℕ → Option (List ℕ)
block_at [] n = None
block_at (object ∷ objects) zero = block_in object
block_at (object ∷ objects) (suc n) = block_at objects n

-- ---- a walk

abbrev pub stopped : ℕ → Stop → Walk
stopped passed stop = record { moved = 0; passed = passed; stop = stop }

-- One more block or filemark before it, or one more object that does not count.
abbrev pub moved_one : Walk → Walk
moved_one w = record { moved = suc w.moved; passed = suc w.passed; stop = w.stop }

abbrev pub passed_one : Walk → Walk
passed_one w = record { moved = w.moved; passed = suc w.passed; stop = w.stop }

-- Over so many blocks: to the first filemark at most, which is passed.
abbrev pub over_blocks : List Bool → ℕ → Walk
over_blocks marks zero = stopped 0 stops.Count
over_blocks [] (suc n) = stopped 0 stops.Edge
over_blocks (true ∷ marks) (suc n) = stopped 1 stops.Filemark
over_blocks (false ∷ marks) (suc n) = moved_one (over_blocks marks n)

-- Over so many filemarks, and the blocks between them.
abbrev pub over_filemarks : List Bool → ℕ → Walk
over_filemarks marks zero = stopped 0 stops.Count
over_filemarks [] (suc n) = stopped 0 stops.Edge
over_filemarks (true ∷ marks) (suc n) = moved_one (over_filemarks marks n)
over_filemarks (false ∷ marks) (suc n) = passed_one (over_filemarks marks (suc n))

-- The position after so many objects that way.
abbrev pub position_after : ℕ → Bool → ℕ → ℕ
position_after position true passed = position + passed
position_after position false passed = position - passed

abbrev pub reel_at : Reel → ℕ → Reel
reel_at r position = record { objects = r.objects; position = position }

-- ---- what is read and written

abbrev pub bytes_of : List Object → List ℕ
bytes_of [] = []
bytes_of (block bytes ∷ objects) = bytes ++ bytes_of objects
bytes_of (filemark ∷ objects) = bytes_of objects

-- The bytes of all blocks from the position on, and of so many objects.
abbrev pub bytes_from : Reel → List ℕ
bytes_from r = bytes_of (drop r.position r.objects)

abbrev pub bytes_ahead : Reel → ℕ → List ℕ
bytes_ahead r n = bytes_of (take n (drop r.position r.objects))

-- Bytes as n blocks of this size.
abbrev pub blocks_of : ℕ → ℕ → List ℕ → List Object
blocks_of size zero bytes = []
blocks_of size (suc n) bytes = block (take size bytes) ∷ blocks_of size n (drop size bytes)

abbrev pub filemarks : ℕ → List Object
filemarks zero = []
filemarks (suc n) = filemark ∷ filemarks n

-- What stood behind the position is lost (10.2.14, 10.2.15).
abbrev pub reel_with : Reel → List Object → Reel
reel_with r more = record { objects = take r.position r.objects ++ more; position = r.position + length more }

-- ---- blocks of one size

abbrev pub IsWhole : ℕ → Object → Type 0
IsWhole size (block bytes) = length bytes ≡ size
IsWhole size filemark = Unit {0}

abbrev pub AreWhole : ℕ → List Object → Type 0
AreWhole size [] = Unit {0}
AreWhole size (object ∷ objects) = IsWhole size object × AreWhole size objects
