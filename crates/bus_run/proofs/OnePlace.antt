-- One place of a list of devices.
use Rattle.std.proofs.Common.{ℕ, zero, suc, ◌≡◌, ◌≢◌, ◌<◌, List, [], ◌∷◌, Option, Some, None, length, get_or, slice_set}
use Rattle.std.proofs.Common.{sym, subst, arith}
use Rattle.std.specs.Prelude.{slice_index_or}
use Rattle.std.proofs.lemmas.Grind.{common_steps, elements}
use Rattle.bus_trace.specs.declared.Row.{Row}
use Rattle.scenario.specs.Value.{ScenarioValue}
use Rattle.bus_run.specs.Places.{IsIn}

pub read_at : {D : Type 0} → (xs : List (Option D)) (i : ℕ) (x : Option D) → i < length xs → x ≡ get_or xs i x
    → x ≡ slice_index_or xs i None
read_at [] i x h e = absurd (omega arith)
read_at (y ∷ xs) zero x h e = e
read_at (y ∷ xs) (suc i) x h e = read_at xs i x (omega arith) e

pub other_at : {D : Type 0} → (xs : List (Option D)) (i d : ℕ) (v : Option D) → i ≢ d
    → slice_index_or (slice_set xs i v) d None ≡ slice_index_or xs d None
other_at xs i d v h = grind (arith, common_steps, elements)

pub own_at : {D : Type 0} → (xs : List (Option D)) (i : ℕ) (v : Option D) → i < length xs
    → slice_index_or (slice_set xs i v) i None ≡ v
own_at xs i v h = grind (arith, common_steps, elements)

pub in_at : {D : Type 0} → (IsOf : ScenarioValue → List Row → ℕ → D → Type 0)
    (s : ScenarioValue) (rows : List Row) (xs : List (Option D)) (i : ℕ) (x : Option D)
    → x ≡ slice_index_or xs i None → IsIn IsOf s rows i (slice_index_or xs i None) → IsIn IsOf s rows i x
in_at {D} IsOf s rows xs i x e h = subst (λ (y : Option D). IsIn IsOf s rows i y) (sym e) h

pub own_in : {D : Type 0} → (IsOf : ScenarioValue → List Row → ℕ → D → Type 0)
    (s : ScenarioValue) (rows : List Row) (xs : List (Option D)) (i : ℕ) (v : Option D)
    → i < length xs → IsIn IsOf s rows i v → IsIn IsOf s rows i (slice_index_or (slice_set xs i v) i None)
own_in {D} IsOf s rows xs i v h p = subst (λ (y : Option D). IsIn IsOf s rows i y) (sym (own_at xs i v h)) p

pub some_in : {D : Type 0} → (IsOf : ScenarioValue → List Row → ℕ → D → Type 0)
    (s : ScenarioValue) (rows : List Row) (dev : ℕ) (place : Option D) (device : D)
    → place ≡ Some device → IsIn IsOf s rows dev place → IsOf s rows dev device
some_in {D} IsOf s rows dev place device e h = subst (λ (p : Option D). IsIn IsOf s rows dev p) e h
