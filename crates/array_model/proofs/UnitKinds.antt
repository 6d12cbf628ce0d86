-- A unit stays a disk or a tape, as its line says (10.2).
use Rattle.std.proofs.Common.{ℕ, ◌≡◌, Bool, true, false, List, [], ◌∷◌, ◌∙◌, Option, Some, refl, ap, subst}
use Rattle.std.specs.Prelude.{◌&&◌, ◌==◌, is_some, if◌then◌else◌}
use Rattle.bus_base.specs.declared.Event.{Event}
use Rattle.scenario.specs.Lookups.{is_tape, units_of}
use Rattle.scenario.specs.Value.{ScenarioValue}
use Rattle.scenario.specs.declared.value.FillDef.{FillDef}
use Rattle.scenario.specs.declared.value.UnitDef.{UnitDef}
use Rattle.array_model.specs.ArrayHistory.{array_after}
use Rattle.array_model.specs.Contents.{Contents, blank_contents, filled_contents, is_reeled, loaded_contents}
use Rattle.array_model.specs.Contents.{starting_contents, with_block}
use Rattle.array_model.specs.Reels.{Reel}
use Rattle.array_model.specs.Steps.{step}
use Rattle.array_model.specs.Units.{Array, UnitState, starting_units, unit_state_at}
use Rattle.array_model.proofs.ExecutionFacts.{kind_kept}
use Rattle.array_model.proofs.SeatLookups.{found_target, found_unit}
use Rattle.array_model.proofs.UnitContents.{AreAt, AreAtIf, IsKept, at_unit, history_keeps, step_keeps}

-- It has a reel exactly where its line is that of a tape.
abbrev pub IsOfKind : ScenarioValue → ℕ → ℕ → Contents → Type 0
IsOfKind s target unit c = is_reeled c ≡ is_tape s target unit

kind_stays : (s : ScenarioValue) → IsKept (IsOfKind s)
kind_stays s = record { runs = λ m cdb sent target unit h. kind_kept m cdb sent ∙ h }

-- ---- the start

-- A fill is of a block.
pub filled_reel : (u : UnitDef) (fills : List FillDef) (c : Contents) → (filled_contents u fills c).reel ≡ c.reel
filled_reel u [] c = refl
filled_reel u (f ∷ fills) c =
    filled_reel u fills (if f.target == u.target && f.unit == u.unit then with_block c f.lba f.bytes else c)
    ∙ go (f.target == u.target && f.unit == u.unit)
  where
    go : (q : Bool) → (if q then with_block c f.lba f.bytes else c).reel ≡ c.reel
    go true = refl
    go false = refl

starts : (s : ScenarioValue) (units : List UnitDef) → AreAt (IsOfKind s) (starting_units s units)
starts s [] = tt
starts s (u ∷ units) = (go (is_tape s u.target u.unit), starts s units)
  where
    go : (q : Bool) → is_reeled (if q then loaded_contents u s.loads else starting_contents u s.fills) ≡ q
    go true = refl
    go false = ap (λ (o : Option Reel). is_some o) (filled_reel u s.fills (blank_contents u.blocks u.size))

-- ---- after a history

pub kinds_now : (s : ScenarioValue) (history : List Event) (a : Array) → array_after s history ≡ Some a
    → AreAt (IsOfKind s) a.units
kinds_now s history a e = subst (AreAtIf (IsOfKind s)) e
    (history_keeps (IsOfKind s) (kind_stays s) s history (starts s (units_of s)))

-- Of the unit that stands at a place.
kind_at : (s : ScenarioValue) (a : Array) (target unit : ℕ) (u : UnitState) → AreAt (IsOfKind s) a.units
    → unit_state_at a.units target unit ≡ Some u → is_reeled u.contents ≡ is_tape s target unit
kind_at s a target unit u h e =
    at_unit (IsOfKind s) a.units target unit u h e
    ∙ (λ i. is_tape s (found_target a.units target unit u e i) (found_unit a.units target unit u e i))

pub kind_is : (s : ScenarioValue) (history : List Event) (a : Array) (target unit : ℕ) (u : UnitState)
    → array_after s history ≡ Some a → unit_state_at a.units target unit ≡ Some u
    → is_reeled u.contents ≡ is_tape s target unit
kind_is s history a target unit u e f = kind_at s a target unit u (kinds_now s history a e) f

pub kind_after : (s : ScenarioValue) (a b : Array) (event : Event) → AreAt (IsOfKind s) a.units
    → step s event a ≡ Some b → AreAt (IsOfKind s) b.units
kind_after s a b event h e =
    subst (AreAtIf (IsOfKind s)) e (step_keeps (IsOfKind s) (kind_stays s) s event (Some a) h)
