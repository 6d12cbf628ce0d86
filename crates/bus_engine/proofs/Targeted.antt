-- The target of each unit of a scenario that obeys the rules of its text has a line of it.
use Rattle.std.proofs.Common.{ℕ, ◌≡◌, Bool, true, false, cond, ◌||◌, List, [], ◌∷◌, Some, refl, sym}
use Rattle.std.specs.Prelude.{◌==◌, is_some}
use Rattle.std.specs.List.{AllByRecursion, find, list_all}
use Rattle.std.proofs.lemmas.Bool.{and_from, true≢false}
use Rattle.scenario.specs.declared.value.TargetDef.{TargetDef}
use Rattle.scenario.specs.declared.value.UnitDef.{UnitDef}
use Rattle.scenario.specs.Value.{ScenarioValue}
use Rattle.scenario.specs.Lookups.{has_target, units_of}
use Rattle.scenario.specs.Writing.{Obeys}
use Rattle.due_model.specs.Defs.{target_def_of}
use Rattle.delivery_laws.specs.right_laws.proofs.Replies.Targeted.{is_there, units_targeted}
use Rattle.bus_engine.specs.Disks.{have_targets}

there_found : (targets : List TargetDef) (dev : ℕ) → is_there targets dev ≡ true
    → is_some (find (λ (t : TargetDef). t.dev == dev) targets) ≡ true
there_found [] dev e = absurd (true≢false (sym e))
there_found (t ∷ targets) dev e = go (t.dev == dev) e (λ z. there_found targets dev z)
  where
    go : (q : Bool) → (q || is_there targets dev) ≡ true
        → (is_there targets dev ≡ true → is_some (find (λ (x : TargetDef). x.dev == dev) targets) ≡ true)
        → is_some (cond q (Some t) (find (λ (x : TargetDef). x.dev == dev) targets)) ≡ true
    go true z found = refl
    go false z found = found z

all_found : (s : ScenarioValue) (units : List UnitDef)
    → AllByRecursion (λ (u : UnitDef). has_target s u.target ≡ true) units
    → list_all (λ (u : UnitDef). is_some (target_def_of s u.target)) units ≡ true
all_found s [] a = refl
all_found s (u ∷ units) a = and_from _ _ (there_found s.targets u.target a.0) (all_found s units a.1)

pub lawful_have_targets : (s : ScenarioValue) → Obeys s → have_targets s ≡ true
lawful_have_targets s o = all_found s (units_of s) (units_targeted s o)
