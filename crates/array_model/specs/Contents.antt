-- What a unit holds: the blocks of a disk with its fills, or what stands on a tape with its loads.
use Rattle.std.specs.Prelude.{ℕ, zero, suc, ◌+◌, ◌==◌, Bool, ◌&&◌, List, [], ◌∷◌, ◌++◌, take, drop, replicate, nat_lt}
use Rattle.std.specs.Prelude.{Option, Some, None, is_some, if◌then◌else◌}
use Rattle.std.specs.List.{list_all}
use Rattle.scenario.specs.declared.value.UnitDef.{UnitDef}
use Rattle.scenario.specs.declared.value.FillDef.{FillDef}
use Rattle.scenario.specs.declared.value.LoadDef.{LoadDef}
use Rattle.scenario.specs.declared.value.Load.{Load}
use Rattle.scenario.specs.declared.value.Load.TheVariants as loads
use Rattle.array_model.specs.Reels as reels
use Rattle.array_model.specs.Reels.{Object, Reel}

-- How many blocks there are, of how many bytes each, and the touched ones with their numbers, the lowest first. Any
-- other block is zero. Of a tape, how many objects it has room for, of how many bytes a block is, and its reel; it has
-- no numbered blocks.
pub record Contents : Type 0 where
  pub count : ℕ
  pub size : ℕ
  pub touched : List (ℕ × List ℕ)
  pub reel : Option Reel

-- It is a tape.
abbrev pub is_reeled : Contents → Bool
is_reeled c = is_some c.reel

abbrev pub blank_contents : ℕ → ℕ → Contents
blank_contents count size = record { count = count; size = size; touched = []; reel = None }

abbrev pub no_contents : Contents
no_contents = blank_contents 0 0

abbrev pub zero_block : ℕ → List ℕ
zero_block size = replicate size 0

-- ---- one block

-- The block of this number among the touched ones, or else this one.
abbrev pub touched_block : List (ℕ × List ℕ) → ℕ → List ℕ → List ℕ
touched_block [] lba otherwise = otherwise
touched_block (entry ∷ touched) lba otherwise = if entry.0 == lba then entry.1 else touched_block touched lba otherwise

abbrev pub block_at : Contents → ℕ → List ℕ
block_at c lba = touched_block c.touched lba (zero_block c.size)

abbrev pub touched_with : List (ℕ × List ℕ) → ℕ → List ℕ → List (ℕ × List ℕ)
touched_with [] lba block = (lba, block) ∷ []
touched_with (entry ∷ touched) lba block =
    if entry.0 == lba then (lba, block) ∷ touched
    else if nat_lt lba entry.0 then (lba, block) ∷ (entry ∷ touched)
    else entry ∷ touched_with touched lba block

abbrev pub with_block : Contents → ℕ → List ℕ → Contents
with_block c lba block = record c { touched = touched_with c.touched lba block }

-- ---- several blocks

-- The bytes of n blocks from block lba on, in order.
abbrev pub bytes_at : Contents → ℕ → ℕ → List ℕ
bytes_at c lba zero = []
bytes_at c lba (suc n) = block_at c lba ++ bytes_at c (lba + 1) n

-- The contents with n blocks from block lba on replaced by these bytes.
abbrev pub with_bytes : Contents → ℕ → ℕ → List ℕ → Contents
with_bytes c lba zero bytes = c
with_bytes c lba (suc n) bytes = with_bytes (with_block c lba (take c.size bytes)) (lba + 1) n (drop c.size bytes)

-- ---- the start: blocks are zero but for the fills

abbrev pub filled_contents : UnitDef → List FillDef → Contents → Contents
filled_contents u [] c = c
filled_contents u (f ∷ fills) c =
    filled_contents u fills (if f.target == u.target && f.unit == u.unit then with_block c f.lba f.bytes else c)

abbrev pub starting_contents : UnitDef → List FillDef → Contents
starting_contents u fills = filled_contents u fills (blank_contents u.blocks u.size)

-- ---- the start of a tape: at the beginning, with its loads

abbrev pub object_of : Load → Object
object_of (loads.Block bytes) = reels.block bytes
object_of loads.Mark = reels.filemark

abbrev pub loaded_objects : UnitDef → List LoadDef → List Object
loaded_objects u [] = []
loaded_objects u (l ∷ defs) =
    if l.target == u.target && l.unit == u.unit then object_of l.what ∷ loaded_objects u defs
    else loaded_objects u defs

abbrev pub loaded_contents : UnitDef → List LoadDef → Contents
loaded_contents u defs = record (blank_contents u.blocks u.size) {
  reel = Some (record { objects = loaded_objects u defs; position = 0 });
}

-- ---- the blocks that are not all zero, with their numbers, the lowest first

abbrev pub is_zero_block : List ℕ → Bool
is_zero_block block = list_all (λ (byte : ℕ). byte == 0) block

abbrev pub nonzero_blocks : List (ℕ × List ℕ) → List (ℕ × List ℕ)
nonzero_blocks [] = []
nonzero_blocks (entry ∷ touched) =
    if is_zero_block entry.1 then nonzero_blocks touched else entry ∷ nonzero_blocks touched

abbrev pub printed_blocks : Contents → List (ℕ × List ℕ)
printed_blocks c = nonzero_blocks c.touched
