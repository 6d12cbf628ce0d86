-- The units of a target and the process of its connection after a row.
use Rattle.std.proofs.Common.{ℕ, ◌≡◌, true, List, [], ◌∷◌, refl, sym, subst, Option, Some, None}
use Rattle.std.specs.Prelude.{is_some}
use Rattle.bus_base.specs.declared.Event.{Event}
use Rattle.bus_base.specs.declared.Event.TheVariants as events
use Rattle.scenario.specs.Value.{ScenarioValue}
use Rattle.array_model.specs.ArrayHistory.{array_step}
use Rattle.array_model.specs.Processes.{Process}
use Rattle.array_model.specs.SoundArray.{HasSeats, IsSound}
use Rattle.array_model.specs.Steps.{step}
use Rattle.array_model.specs.Units.{Array}
use Rattle.array_model.proofs.SoundArrays.{step_sound}
use Rattle.due_model.specs.RunState.{or_start}
use Rattle.due_model.specs.RunSteps.{array_after_events}
use Rattle.target_course.specs.target_units.specs.Units.{IsStep}
use Rattle.disk_target.specs.declared.standing.Standing.{Standing}
use Rattle.disk_target.specs.declared.standing.Standing.TheVariants as standings
use Rattle.target_course.specs.target_units.specs.declared.served.Served.{Served}
use Rattle.disk_target.specs.Standings.{HasBlock}
use Rattle.disk_target.specs.Processes.{ProcessesState, AreProcessesAt, AreProcessesAfter, AreSettledAt, IsOwnEvent}
use Rattle.disk_target.specs.Processes.{AreOwnEvents, times_of_events}

-- One event more.
pub one_more : (s : ScenarioValue) (x : Option Array) (it : Event) (P : Array → Type 0) → HasSeats s
    → IsSound s (or_start s x) → is_some (array_step s it x) ≡ true → ((b : Array) → IsStep s it (or_start s x) b → P b)
    → P (or_start s (array_step s it x)) × IsSound s (or_start s (array_step s it x))
one_more s None it P seats sound some f = cc
one_more s (Some a) it P seats sound some f = go (step s it a) refl some
  where
    go : (y : Option Array) → step s it a ≡ y → is_some y ≡ true → P (or_start s y) × IsSound s (or_start s y)
    go None e k = cc
    go (Some b) e k = (f b (record { seats = seats; sound = sound; step_is = e }), step_sound s a b it seats sound e)

pub some_before : (s : ScenarioValue) (x : Option Array) (it : Event) → is_some (array_step s it x) ≡ true
    → is_some x ≡ true
some_before s None it e = cc
some_before s (Some a) it e = refl

pub row_events : (s : ScenarioValue) (x : Option Array) (times : List ℕ) (now : ℕ)
    (p : Process) (unit : ℕ) (q : Served) (old new : ProcessesState) (shown : List Event)
    → HasSeats s → AreSettledAt s (or_start s x) times p unit old → is_some (array_after_events s x shown) ≡ true
    → AreOwnEvents s (or_start s x) old.units.dev unit p q old.standing shown → (shown ≡ [] → new ≡ old)
    → ((a b : Array) (it : Event) → shown ≡ it ∷ [] → AreProcessesAt s a times p unit old
    → IsOwnEvent a old.units.dev unit p q old.standing it
    → IsStep s it a b → AreProcessesAfter s a b times now p unit new)
    → ((a b d : Array) (it : Event) → shown ≡ it ∷ events.Accept p.id ∷ [] → AreProcessesAt s a times p unit old
    → old.standing ≡ standings.Nowhere → HasBlock p q → ((v : Standing) → IsOwnEvent b old.units.dev unit p q v it)
    → IsStep s (events.Accept p.id) a b → IsStep s it b d → AreProcessesAfter s a d times now p unit new)
    → AreSettledAt s (or_start s (array_after_events s x shown))
    (times_of_events s x times shown (array_after_events s x shown) now) p unit new
row_events s x times now p unit q old new [] seats h some own nothing one two = record {
  sound = h.sound;
  at = subst (λ (v : ProcessesState). AreProcessesAt s (or_start s x) times p unit v) (sym (nothing refl)) h.at;
}
row_events s x times now p unit q old new (it ∷ []) seats h some own nothing one two =
    let y = one_more s x it (λ b. AreProcessesAfter s (or_start s x) b times now p unit new) seats h.sound some
    (λ b st. one (or_start s x) b it refl h.at own st) in
    record { sound = y.1; at = y.0 }
row_events s x times now p unit q old new (it ∷ first ∷ []) seats h some own nothing one two =
    let before = some_before s (array_step s first x) it some in
    let z = one_more s x first (λ b. IsStep s first (or_start s x) b) seats h.sound before (λ b st. st) in
    let y = one_more s (array_step s first x) it (λ d. AreProcessesAfter s (or_start s x) d times now p unit new)
    seats z.1 some (λ d st. two (or_start s x) (or_start s (array_step s first x)) d it
    (λ i. it ∷ own.0 i ∷ []) h.at own.1 own.2 (λ v. own.3 (or_start s (array_step s first x)) v z.0)
    (subst (λ (e : Event). IsStep s e (or_start s x) (or_start s (array_step s first x))) own.0 z.0) st) in
    record { sound = y.1; at = y.0 }
row_events s x times now p unit q old new (it ∷ first ∷ zeroth ∷ more) seats h some own nothing one two = absurd own
