-- The units of a target after a row.
use Rattle.std.proofs.Common.{ℕ, ◌≡◌, true, List, [], ◌∷◌, ◌∙◌, sym, subst, Option}
use Rattle.std.specs.Prelude.{is_some}
use Rattle.bus_base.specs.declared.Event.{Event}
use Rattle.bus_trace.specs.declared.Row.{Row}
use Rattle.scenario.specs.Value.{ScenarioValue}
use Rattle.array_model.specs.ArrayHistory.{array_step}
use Rattle.array_model.specs.SoundArray.{HasSeats}
use Rattle.array_model.specs.Units.{Array}
use Rattle.due_model.specs.Allowed.{allowed}
use Rattle.due_model.specs.RunState.{or_start}
use Rattle.due_model.specs.RunSteps.{current_times_after, run_state, array_after_events, events_of_row}
use Rattle.target_course.specs.target_units.specs.Units.{UnitsState, AreUnitsOf, AreUnitsAfter, IsStep}
use Rattle.target_course.specs.target_units.proofs.UnitSteps.{all_stay}
use Rattle.disk_target.specs.Processes.{AreKeptAt, AreKeptOf, AreOutside, times_of_events}
use Rattle.disk_target.proofs.RowEvents.{one_more, some_before}
use Rattle.disk_target.proofs.TimesTwice.{twice, arrival_keeps}
use Rattle.bus_base.proofs.Tests.{and_second}

-- By the events that it shows.
abbrev pub AreKeptBy : ScenarioValue → Option Array → List ℕ → List Event → ℕ → UnitsState → Type 0
AreKeptBy s x times shown now v = AreKeptAt s (or_start s (array_after_events s x shown))
    (times_of_events s x times shown (array_after_events s x shown) now) v

pub by_one : (s : ScenarioValue) (x : Option Array) (times : List ℕ) (now : ℕ) (old new : UnitsState) (it : Event)
    → HasSeats s → AreKeptAt s (or_start s x) times old → is_some (array_step s it x) ≡ true
    → ((b : Array) → IsStep s it (or_start s x) b → AreUnitsAfter s (or_start s x) b times now new.dev new.units)
    → AreKeptBy s x times (it ∷ []) now new
by_one s x times now old new it seats h some f =
    let y = one_more s x it (λ b. AreUnitsAfter s (or_start s x) b times now new.dev new.units) seats h.sound some f in
    record { sound = y.1; units = y.0 }

pub by_row : (s : ScenarioValue) (rows : List Row) (row : Row) (now : ℕ) (shown : List Event) (v : UnitsState)
    → now ≡ row.time → events_of_row s rows row ≡ shown
    → AreKeptBy s (run_state s rows).array (run_state s rows).current_since shown now v → AreKeptOf s (row ∷ rows) v
by_row s rows row now shown v time is h = subst (λ (t : ℕ). AreKeptBy s (run_state s rows).array
    (run_state s rows).current_since (events_of_row s rows row) t v) time (subst
    (λ (e : List Event). AreKeptBy s (run_state s rows).array (run_state s rows).current_since e now v) (sym is) h)

pub some_after : (s : ScenarioValue) (rows : List Row) (row : Row) (shown : List Event) → allowed s (row ∷ rows) ≡ true
    → events_of_row s rows row ≡ shown → is_some (array_after_events s (run_state s rows).array shown) ≡ true
some_after s rows row shown permitted is =
    (λ i. is_some (array_after_events s (run_state s rows).array (sym is i))) ∙ and_second (allowed s rows) _ permitted

stays_by : (s : ScenarioValue) (x : Option Array) (times : List ℕ) (now : ℕ) (v : UnitsState) (shown : List Event)
    → HasSeats s → AreKeptAt s (or_start s x) times v → is_some (array_after_events s x shown) ≡ true
    → AreOutside s v.dev shown → AreKeptBy s x times shown now v
stays_by s x times now v [] seats h some own = h
stays_by s x times now v (it ∷ []) seats h some own = by_one s x times now v v it seats h some
    (λ b st. all_stay s it (or_start s x) b times now v.dev v.units st h.units own)
stays_by s x times now v (it ∷ first ∷ []) seats h some own =
    let before = some_before s (array_step s first x) it some in
    let z = one_more s x first (λ b. IsStep s first (or_start s x) b) seats h.sound before (λ b st. st) in
    let mid : Array = or_start s (array_step s first x) in
    let there = all_stay s first (or_start s x) mid times now v.dev v.units z.0 h.units own.2 in
    let first_step = subst (λ (e : Event). IsStep s e (or_start s x) mid) own.1 z.0 in
    let y = one_more s (array_step s first x) it (λ d. AreUnitsAfter s (or_start s x) d times now v.dev v.units)
    seats z.1 some (λ d st. subst (λ (ts : List ℕ). AreUnitsOf s d ts v.dev v.units) (twice (or_start s x).units
    mid.units d.units times now (arrival_keeps s (or_start s x) mid own.0 first_step.step_is)) (all_stay s it mid d
    (current_times_after (or_start s x).units mid.units times now) now v.dev v.units st there own.3)) in
    record { sound = y.1; units = y.0 }
stays_by s x times now v (it ∷ first ∷ zeroth ∷ more) seats h some own = absurd own

pub stays : (s : ScenarioValue) (rows : List Row) (row : Row) (v : UnitsState) → HasSeats s
    → allowed s (row ∷ rows) ≡ true → AreOutside s v.dev (events_of_row s rows row) → AreKeptOf s rows v
    → AreKeptOf s (row ∷ rows) v
stays s rows row v seats permitted own h = stays_by s (run_state s rows).array (run_state s rows).current_since row.time
    v (events_of_row s rows row) seats h (and_second (allowed s rows) _ permitted) own
