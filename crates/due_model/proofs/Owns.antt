-- What is kept of each device's own rows is what the rows say; and what a device knows of itself.
use Rattle.std.proofs.Common.{inl, inr, ℕ, ◌≡◌, ◌≢◌, ◌<◌, ◌==◌, Bool, true, false, List, [], ◌∷◌, ◌∙◌, refl, sym, ap}
use Rattle.std.proofs.Common.{subst, arith, length, length-set}
use Rattle.std.specs.Prelude.{slice_set, if◌then◌else◌}
use Rattle.std.proofs.lemmas.Bool.{cases_eq, eq-eqb, ne_eqb}
use Rattle.std.proofs.lemmas.Grind.{common_steps, elements}
use Rattle.bus_rules.specs.bus_trace.specs.LineSet.{LineSet}
use Rattle.bus_rules.specs.bus_trace.specs.View.{driven_at}
use Rattle.bus_rules.specs.bus_trace.specs.declared.Row.{Row}
use Rattle.bus_rules.specs.bus_trace.specs.declared.Kind.{Kind}
use Rattle.bus_rules.specs.bus_trace.specs.declared.Kind.TheVariants.{Drives, Fault}
use Rattle.bus_rules.specs.bus_trace.specs.Trace.{driven_after}
use Rattle.bus_rules.specs.bus_trace.specs.declared.changes.Change.{Change}
use Rattle.bus_rules.specs.bus_trace.specs.Terms.{is_fault}
use Rattle.dialogue_model.specs.scenario.specs.Value.{ScenarioValue}
use Rattle.dialogue_model.specs.story_model.specs.BusState.{change_by, row_reading}
use Rattle.dialogue_model.specs.reaction_model.specs.declared.due.Myself.{Myself}
use Rattle.due_model.specs.Own.{Own, own_at, own_after, owns_after, own_next}
use Rattle.due_model.specs.Due.{self_of}
use Rattle.due_model.specs.RunSteps.{run_state}

-- ---- a device's own rows

set_own : (owns : List Own) (dev d : ℕ) (o : Own) → length owns ≡ 8 → d < 8 → dev ≡ d
    → own_at (slice_set owns d o) dev ≡ o
set_own owns dev d o long lt e = grind (arith, common_steps, elements)

set_other : (owns : List Own) (dev d : ℕ) (o : Own) → length owns ≡ 8 → d < 8 → dev ≢ d
    → own_at (slice_set owns d o) dev ≡ own_at owns dev
set_other owns dev d o long lt e = grind (arith, common_steps, elements)

long_after : (owns : List Own) (row : Row) (c : Change) → length owns ≡ 8 → length (owns_after owns row c) ≡ 8
long_after owns row c e = go (is_fault row.kind)
  where
    go : (q : Bool)
        → length (if q then owns else slice_set owns row.dev (own_after (own_at owns row.dev) c row.time)) ≡ 8
    go true = e
    go false = length-set _ _ _ ∙ e

pub owns_long : (s : ScenarioValue) (rows : List Row) → length (run_state s rows).owns ≡ 8
owns_long s [] = refl
owns_long s (row ∷ rows) = long_after (run_state s rows).owns row
    (row_reading (run_state s rows).story.bus_state row).change (owns_long s rows)

pub own_step : (owns : List Own) (t d : ℕ) (k : Kind) (c : Change) (dev : ℕ) → length owns ≡ 8 → d < 8
    → own_at (owns_after owns (record { time = t; dev = d; kind = k }) c) dev
    ≡ (if d == dev then own_next k (own_at owns dev) c t else own_at owns dev)
own_step owns t d (Drives l) c dev long lt =
    elim (cases_eq dev d) [
      | inl e ↦ set_own owns dev d (own_after (own_at owns d) c t) long lt e
          ∙ ap (λ (x : ℕ). own_after (own_at owns x) c t) (sym e)
          ∙ sym (ap (λ (q : Bool). if q then own_after (own_at owns dev) c t else own_at owns dev)
          (ap (λ (x : ℕ). x == dev) (sym e) ∙ eq-eqb dev dev refl))
      | inr ne ↦ set_other owns dev d (own_after (own_at owns d) c t) long lt ne
          ∙ sym (ap (λ (q : Bool). if q then own_after (own_at owns dev) c t else own_at owns dev)
          (ne_eqb d dev (λ x. ne (sym x))))
    ]
own_step owns t d (Fault b) c dev long lt = go (d == dev)
  where
    go : (q : Bool) → own_at owns dev ≡ (if q then own_at owns dev else own_at owns dev)
    go true = refl
    go false = refl

-- ---- what it drives, and since when

driven_other : (xs : List LineSet) (i j : ℕ) (v : LineSet) → i ≢ j → driven_at (slice_set xs i v) j ≡ driven_at xs j
driven_other xs i j v h = grind (arith, common_steps, elements)

owns_other : (xs : List Own) (row : Row) (c : Change) (dev : ℕ) → row.dev ≢ dev
    → own_at (owns_after xs row c) dev ≡ own_at xs dev
owns_other xs row c dev h = go (is_fault row.kind)
  where
    go : (q : Bool)
        → own_at (if q then xs else slice_set xs row.dev (own_after (own_at xs row.dev) c row.time)) dev ≡ own_at xs dev
    go true = refl
    go false = grind (arith, common_steps, elements)

pub other_mine : (s : ScenarioValue) (rows : List Row) (row : Row) (dev latency : ℕ) → row.dev ≢ dev
    → self_of (run_state s (row ∷ rows)) dev latency ≡ self_of (run_state s rows) dev latency
other_mine s rows row dev latency h =
    let k = run_state s rows in
    let c : Change = change_by k.story.bus_state row in
    let d = driven_other k.story.bus_state.driven row.dev dev
    (driven_after row.kind (driven_at k.story.bus_state.driven row.dev)) h in
    let o = owns_other k.owns row c dev h in
    λ i. record { dev = dev; latency = latency; own = d i; since = (o i).row }

driven_long : (s : ScenarioValue) (rows : List Row) → length (run_state s rows).story.bus_state.driven ≡ 8
driven_long s [] = refl
driven_long s (row ∷ rows) = length-set _ _ _ ∙ driven_long s rows

driven_own : (xs : List LineSet) (i : ℕ) (v : LineSet) → i < length xs → driven_at (slice_set xs i v) i ≡ v
driven_own xs i v h = grind (arith, common_steps, elements)

owns_own : (xs : List Own) (row : Row) (c : Change) (lines : LineSet) → row.dev < length xs → row.kind ≡ Drives lines
    → (own_at (owns_after xs row c) row.dev).row ≡ row.time
owns_own xs row c lines h e =
    let f : is_fault row.kind ≡ false = ap is_fault e in
    ap (λ (q : Bool).
    (own_at (if q then xs else slice_set xs row.dev (own_after (own_at xs row.dev) c row.time)) row.dev).row) f
    ∙ ap (λ (o : Own). o.row) (at_set xs row.dev (own_after (own_at xs row.dev) c row.time) h)
  where
    at_set : (ys : List Own) (i : ℕ) (v : Own) → i < length ys → own_at (slice_set ys i v) i ≡ v
    at_set ys i v l = grind (arith, common_steps, elements)

pub own_mine : (s : ScenarioValue) (rows : List Row) (row : Row) (latency : ℕ) (lines : LineSet)
    → row.dev < 8 → row.kind ≡ Drives lines → self_of (run_state s (row ∷ rows)) row.dev latency
    ≡ (let me : Myself = record { dev = row.dev; latency = latency; own = lines; since = row.time } in me)
own_mine s rows row latency lines h e =
    let k = run_state s rows in
    let c : Change = change_by k.story.bus_state row in
    let d = driven_own k.story.bus_state.driven row.dev
    (driven_after row.kind (driven_at k.story.bus_state.driven row.dev))
    (subst (λ (n : ℕ). row.dev < n) (sym (driven_long s rows)) h) in
    let w : driven_after row.kind (driven_at k.story.bus_state.driven row.dev) ≡ lines = ap
    (λ (x : Kind). driven_after x (driven_at k.story.bus_state.driven row.dev)) e in
    let o = owns_own k.owns row c lines (subst (λ (n : ℕ). row.dev < n) (sym (owns_long s rows)) h) e in
    λ i. record { dev = row.dev; latency = latency; own = (d ∙ w) i; since = o i }
