-- What was declared.
use Rattle.std.specs.Prelude.{ℕ, Bool, ◌==◌, ◌&&◌, ◌||◌, List, ◌++◌, map, Option, is_some}
use Rattle.std.specs.List.{find, list_any, count_by}
use Rattle.scenario.specs.declared.value.HostDef.{HostDef}
use Rattle.scenario.specs.declared.value.TargetDef.{TargetDef}
use Rattle.scenario.specs.declared.value.UnitDef.{UnitDef}
use Rattle.scenario.specs.declared.value.FillDef.{FillDef}
use Rattle.scenario.specs.declared.value.TapeDef.{TapeDef}
use Rattle.scenario.specs.declared.value.LoadDef.{LoadDef}
use Rattle.scenario.specs.Value.{ScenarioValue}

-- The device is an initiator.
abbrev pub has_host : ScenarioValue → ℕ → Bool
has_host s dev = list_any (λ (h : HostDef). h.dev == dev) s.hosts

-- The device is a target.
abbrev pub has_target : ScenarioValue → ℕ → Bool
has_target s dev = list_any (λ (t : TargetDef). t.dev == dev) s.targets

-- The device is declared.
abbrev pub has_device : ScenarioValue → ℕ → Bool
has_device s dev = has_host s dev || has_target s dev

-- A tape as a unit: its objects count as blocks.
abbrev pub tape_unit : TapeDef → UnitDef
tape_unit t = record { target = t.target; unit = t.unit; blocks = t.objects; size = t.size; depth = t.depth }

-- All units: the disks, and after them the tapes.
abbrev pub units_of : ScenarioValue → List UnitDef
units_of s = s.units ++ map tape_unit s.tapes

-- The unit of this number of this target.
abbrev pub unit_of : ScenarioValue → ℕ → ℕ → Option UnitDef
unit_of s target unit = find (λ (u : UnitDef). u.target == target && u.unit == unit) (units_of s)

-- The disk of this number of this target.
abbrev pub disk_of : ScenarioValue → ℕ → ℕ → Option UnitDef
disk_of s target unit = find (λ (u : UnitDef). u.target == target && u.unit == unit) s.units

-- The tape of this number of this target.
abbrev pub tape_of : ScenarioValue → ℕ → ℕ → Option TapeDef
tape_of s target unit = find (λ (t : TapeDef). t.target == target && t.unit == unit) s.tapes

-- The unit of this number of this target is a tape.
abbrev pub is_tape : ScenarioValue → ℕ → ℕ → Bool
is_tape s target unit = is_some (tape_of s target unit)

-- One of these fills is of this block.
abbrev pub has_fill : List FillDef → ℕ → ℕ → ℕ → Bool
has_fill fills target unit lba =
    list_any (λ (f : FillDef). (f.target == target && f.unit == unit) && f.lba == lba) fills

-- How many objects these loads put on a tape.
abbrev pub loads_at : List LoadDef → ℕ → ℕ → ℕ
loads_at loads target unit = count_by (λ (l : LoadDef). l.target == target && l.unit == unit) loads
