-- Since when the current process of a unit is that is the time of a row; so it comes early.
use Rattle.std.proofs.Common.{ℕ, zero, suc, ◌<◌, ◌≤◌, ◌+◌, ◌^◌, ◌==◌, arith, Bool, true, false, List, [], ◌∷◌, length}
use Rattle.std.proofs.Common.{Option}
use Rattle.std.specs.Prelude.{if◌then◌else◌, ◌&&◌, replicate}
use Rattle.std.specs.List.{AllByRecursion}
use Rattle.bus_base.specs.declared.Event.{Event}
use Rattle.bus_trace.specs.declared.Row.{Row}
use Rattle.scenario.specs.declared.value.TargetDef.{TargetDef}
use Rattle.scenario.specs.Lookups.{units_of}
use Rattle.scenario.specs.Value.{ScenarioValue}
use Rattle.array_model.specs.Units.{Array, UnitState}
use Rattle.due_model.specs.RunState.{RunState, array_of, or_start}
use Rattle.due_model.specs.RunSteps.{array_after_events, current_times_after, current_times_if, is_same_running}
use Rattle.due_model.specs.RunSteps.{run_state, events_of_row}
use Rattle.due_model.specs.Wants.{since_of}
use Rattle.target_course.specs.scsi_device.specs.Lines.{IsTargetLine}
use Rattle.disk_target.specs.Targets.{AreInTime, IsServable}

abbrev pub AreBefore : List ℕ → Type 0
AreBefore times = AllByRecursion (λ (t : ℕ). t < 2 ^ 62) times

none_before : (n : ℕ) → AreBefore (replicate n 0)
none_before zero = tt
none_before (suc n) = (omega arith, none_before n)

after_before : (before after : List UnitState) (times : List ℕ) (time : ℕ) → AreBefore times → time < 2 ^ 62
    → AreBefore (current_times_after before after times time)
after_before [] after times time h lt = tt
after_before (u ∷ before) [] times time h lt = tt
after_before (u ∷ before) (v ∷ after) [] time h lt = tt
after_before (u ∷ before) (v ∷ after) (t ∷ times) time h lt =
    (one (is_same_running u.current v.current), after_before before after times time h.1 lt)
  where
    one : (y : Bool) → (if y then t else time) < 2 ^ 62
    one true = h.0
    one false = lt

row_before : (s : ScenarioValue) (k : RunState) (shown : List Event) (a : Option Array) (time : ℕ)
    → AreBefore k.current_since → time < 2 ^ 62 → AreBefore (current_times_if s k shown a time)
row_before s k [] a time h lt = h
row_before s k (e ∷ shown) a time h lt =
    after_before (or_start s k.array).units (or_start s a).units k.current_since time h lt

rows_before : (s : ScenarioValue) (rows : List Row) → AllByRecursion (λ (row : Row). row.time < 2 ^ 62) rows
    → AreBefore (run_state s rows).current_since
rows_before s [] h = none_before (length (units_of s))
rows_before s (row ∷ rows) h =
    let k : RunState = run_state s rows in
    row_before s k (events_of_row s rows row) (array_after_events s k.array (events_of_row s rows row)) row.time
    (rows_before s rows h.1) h.0

since_before : (units : List UnitState) (times : List ℕ) (dev n : ℕ) → AreBefore times
    → since_of units times dev n < 2 ^ 62
since_before [] times dev n h = omega arith
since_before (u ∷ units) [] dev n h = omega arith
since_before (u ∷ units) (t ∷ times) dev n h = one (u.target == dev && u.unit == n) (since_before units times dev n h.1)
  where
    one : (y : Bool) → since_of units times dev n < 2 ^ 62 → (if y then t else since_of units times dev n) < 2 ^ 62
    one true rest = h.0
    one false rest = rest

sum_before : (x y : ℕ) → x < 2 ^ 62 → y ≤ 1000000000 → x + y < 2 ^ 63
sum_before x y h l = omega arith

pub servable : (s : ScenarioValue) (rows : List Row) (t : TargetDef) → AreInTime rows → IsTargetLine s t
    → IsServable s rows t
servable s rows t time line = record {
  few = time.few;
  early = λ n small. sum_before (since_of (array_of s (run_state s rows)).units
      (run_state s rows).current_since t.dev n) t.seek (since_before (array_of s (run_state s rows)).units
      (run_state s rows).current_since t.dev n (rows_before s rows time.early)) line.seek;
}

pub in_time_before : (rows : List Row) (row : Row) → AreInTime (row ∷ rows) → AreInTime rows
in_time_before rows row h =
    record { few = let few : length (row ∷ rows) < 2 ^ 64 = h.few in omega (arith, few); early = h.early.1 }
