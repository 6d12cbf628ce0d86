-- What stands on a tape at the start.
use Rattle.std.specs.Prelude.{ℕ, ◌≤◌, ◌+◌, ◌==◌, ◌&&◌, Bool, List, [], ◌∷◌, length, if◌then◌else◌}
use Rattle.scenario.specs.declared.value.Load.{Load}
use Rattle.scenario.specs.declared.value.Load.TheVariants as loads
use Rattle.scenario.specs.declared.value.LoadDef.{LoadDef}
use Rattle.scenario.specs.declared.value.TapeDef.{TapeDef}
use Rattle.scenario.specs.Lookups.{tape_unit}
use Rattle.array_model.specs.Contents.{loaded_objects}
use Rattle.array_model.specs.Reels.{AreWhole}

abbrev pub is_loaded_by : TapeDef → LoadDef → Bool
is_loaded_by t l = l.target == t.target && l.unit == t.unit

-- How many blocks these loads put on the tape.
abbrev pub load_blocks : Load → ℕ
load_blocks (loads.Block bytes) = 1
load_blocks loads.Mark = 0

abbrev pub blocks_loaded : TapeDef → List LoadDef → ℕ
blocks_loaded t [] = 0
blocks_loaded t (l ∷ defs) = (if is_loaded_by t l then load_blocks l.what else 0) + blocks_loaded t defs

-- The blocks of its loads have as many bytes as those of the tape, and it has room for all its loads.
pub record AreLoaded (t : TapeDef) (defs : List LoadDef) : Type 0 where
  pub whole : AreWhole t.size (loaded_objects (tape_unit t) defs)
  pub few : length (loaded_objects (tape_unit t) defs) ≤ t.objects
