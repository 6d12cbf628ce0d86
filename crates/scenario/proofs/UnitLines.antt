-- The unit of a number is a disk or a tape.
use Rattle.std.proofs.Common.{◌≡◌, ℕ, Bool, true, false, cond, ◌&&◌, List, [], ◌∷◌, ◌++◌, map, Option, Some, None, refl}
use Rattle.std.proofs.Common.{ap, ◌∙◌}
use Rattle.std.specs.Prelude.{◌==◌}
use Rattle.std.specs.Option.{option_or, option_map}
use Rattle.std.specs.List.{find}
use Rattle.std.proofs.lemmas.List.{append-nil}
use Rattle.std.proofs.lemmas.List.Folds.{find-append}
use Rattle.scenario.specs.declared.value.UnitDef.{UnitDef}
use Rattle.scenario.specs.declared.value.TapeDef.{TapeDef}
use Rattle.scenario.specs.Value.{ScenarioValue}
use Rattle.scenario.specs.Lookups.{tape_unit, units_of, unit_of, disk_of, tape_of}

tape_found : (tapes : List TapeDef) (target unit : ℕ)
    → find (λ (u : UnitDef). u.target == target && u.unit == unit) (map tape_unit tapes)
    ≡ option_map tape_unit (find (λ (t : TapeDef). t.target == target && t.unit == unit) tapes)
tape_found [] target unit = refl
tape_found (t ∷ tapes) target unit = go (t.target == target && t.unit == unit) (tape_found tapes target unit) where
  go : (q : Bool)
      → find (λ (u : UnitDef). u.target == target && u.unit == unit) (map tape_unit tapes)
      ≡ option_map tape_unit (find (λ (t : TapeDef). t.target == target && t.unit == unit) tapes)
      → cond q (Some (tape_unit t)) (find (λ (u : UnitDef). u.target == target && u.unit == unit) (map tape_unit tapes))
      ≡ option_map tape_unit (cond q (Some t) (find (λ (t : TapeDef). t.target == target && t.unit == unit) tapes))
  go true e = refl
  go false e = e

-- Without tapes all units are disks.
pub plain_units : (s : ScenarioValue) → s.tapes ≡ [] → units_of s ≡ s.units
plain_units s e = ap (λ (tapes : List TapeDef). s.units ++ map tape_unit tapes) e ∙ append-nil s.units

pub plain_unit : (s : ScenarioValue) (target unit : ℕ) → s.tapes ≡ [] → unit_of s target unit ≡ disk_of s target unit
plain_unit s target unit e =
    ap (find (λ (u : UnitDef). u.target == target && u.unit == unit)) (plain_units s e)

-- A unit is looked for among the disks, and then among the tapes.
pub line_is : (units : List UnitDef) (tapes : List TapeDef) (target unit : ℕ)
    → find (λ (u : UnitDef). u.target == target && u.unit == unit) (units ++ map tape_unit tapes)
    ≡ option_or (find (λ (u : UnitDef). u.target == target && u.unit == unit) units)
    (option_map tape_unit (find (λ (t : TapeDef). t.target == target && t.unit == unit) tapes))
line_is units tapes target unit =
    find-append (λ (u : UnitDef). u.target == target && u.unit == unit) units (map tape_unit tapes)
    ∙ ap (option_or (find (λ (u : UnitDef). u.target == target && u.unit == unit) units)) (tape_found tapes target unit)

pub unit_is : (s : ScenarioValue) (target unit : ℕ)
    → unit_of s target unit ≡ option_or (disk_of s target unit) (option_map tape_unit (tape_of s target unit))
unit_is s target unit = line_is s.units s.tapes target unit

pub disk_is : (s : ScenarioValue) (target unit : ℕ) (u : UnitDef) → disk_of s target unit ≡ Some u
    → unit_of s target unit ≡ Some u
disk_is s target unit u e =
    unit_is s target unit ∙ ap (λ (o : Option UnitDef). option_or o (option_map tape_unit (tape_of s target unit))) e

pub tape_is : (s : ScenarioValue) (target unit : ℕ) (t : TapeDef) → disk_of s target unit ≡ None
    → tape_of s target unit ≡ Some t → unit_of s target unit ≡ Some (tape_unit t)
tape_is s target unit t e f = unit_is s target unit ∙ (λ i. option_or (e i) (option_map tape_unit (f i)))

pub none_is : (s : ScenarioValue) (target unit : ℕ) → disk_of s target unit ≡ None → tape_of s target unit ≡ None
    → unit_of s target unit ≡ None
none_is s target unit e f = unit_is s target unit ∙ (λ i. option_or (e i) (option_map tape_unit (f i)))
