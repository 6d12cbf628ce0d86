-- The units of a run that is over, by their targets, and what they hold.
use Rattle.std.specs.Prelude.{ℕ, ◌≡◌, ◌<◌, ◌≤◌, ◌==◌, ◌&&◌, Bool, false, is_some, List, [], ◌∷◌, Option, Some, None}
use Rattle.std.specs.Prelude.{slice_index_or}
use Rattle.std.specs.List.{AllByRecursion, list_all}
use Rattle.bus_trace.specs.declared.Row.{Row}
use Rattle.scenario.specs.declared.value.TapeDef.{TapeDef}
use Rattle.scenario.specs.declared.value.UnitDef.{UnitDef}
use Rattle.scenario.specs.Lookups.{units_of}
use Rattle.scenario.specs.Value.{ScenarioValue}
use Rattle.array_model.specs.Contents.{Contents, is_reeled}
use Rattle.due_model.specs.Defs.{target_def_of}
use Rattle.delivery_laws.specs.target_units.specs.Units.{UnitsState, unit_in, contents_in}
use Rattle.bus_engine.specs.Over.{AreUnitsIf}

-- The target of each unit is a target of the scenario, as the rules of its text have it.
abbrev pub have_targets : ScenarioValue → Bool
have_targets s = list_all (λ (u : UnitDef). is_some (target_def_of s u.target)) (units_of s)

-- Each of the eight.
abbrev pub AreUnitsByTarget : ScenarioValue → List Row → List (Option UnitsState) → Type 0
AreUnitsByTarget s rows of_target = (dev : ℕ) → dev < 8 → AreUnitsIf s rows dev (slice_index_or of_target dev None)

-- What a unit of a target holds; none where it is not there, or its disk or tape was handed out.
abbrev pub held_if : Option UnitsState → ℕ → Option Contents
held_if None unit = None
held_if (Some v) unit = contents_in (unit_in v.units unit)

abbrev pub held_at : List (Option UnitsState) → ℕ → ℕ → Option Contents
held_at of_target target unit = held_if (slice_index_or of_target target None) unit

-- The units of these lines hold this.
abbrev pub AreHeld : List (Option UnitsState) → List UnitDef → List Contents → Type 0
AreHeld of_target [] [] = Unit {0}
AreHeld of_target [] (c ∷ contents) = ⊥
AreHeld of_target (u ∷ units) [] = ⊥
AreHeld of_target (u ∷ units) (c ∷ contents) =
    (held_at of_target u.target u.unit ≡ Some c) × AreHeld of_target units contents

-- These are the contents of disks, or those of tapes.
abbrev pub AreOfKind : Bool → List Contents → Type 0
AreOfKind is_of_tapes contents = AllByRecursion (λ (c : Contents). is_reeled c ≡ is_of_tapes) contents

-- No two lines are of one unit.
abbrev pub IsOther : UnitDef → UnitDef → Type 0
IsOther u v = (v.target == u.target && v.unit == u.unit) ≡ false

abbrev pub AreLinesApart : List UnitDef → Type 0
AreLinesApart [] = Unit {0}
AreLinesApart (u ∷ units) = AllByRecursion (IsOther u) units × AreLinesApart units

-- The numbers of a line are within their limits.
pub record IsWithin (u : UnitDef) : Type 0 where
  pub target : u.target < 8
  pub unit : u.unit < 8
  pub some_blocks : 1 ≤ u.blocks
  pub most_blocks : u.blocks ≤ 4294967296
  pub least_size : 16 ≤ u.size
  pub most_size : u.size ≤ 2048

pub record IsTapeWithin (t : TapeDef) : Type 0 where
  pub target : t.target < 8
  pub unit : t.unit < 8
  pub some_objects : 1 ≤ t.objects
  pub most_objects : t.objects ≤ 65536
  pub least_size : 16 ≤ t.size
  pub most_size : t.size ≤ 2048

-- The units of these lines, all disks or all tapes, hold this, and those of other lines hold that; no two lines are of
-- one unit.
pub record AreParted (is_of_tapes : Bool) (of_target : List (Option UnitsState)) (lines : List UnitDef)
    (contents : List Contents) (others : List UnitDef) (held_there : List Contents) : Type 0 where
  pub held : AreHeld of_target lines contents
  pub kinds : AreOfKind is_of_tapes contents
  pub apart : AreLinesApart lines
  pub within : AllByRecursion IsWithin lines
  pub others_held : AreHeld of_target others held_there
  pub others_within : AllByRecursion IsWithin others
  pub away : AllByRecursion (λ (u : UnitDef). AllByRecursion (IsOther u) others) lines
