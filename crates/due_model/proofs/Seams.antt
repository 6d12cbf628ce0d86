-- The four seams between what devices do and what rows tell, over all rows of a run: a forward pass over the rows
-- decides them.
use Rattle.std.proofs.Common.{◌≡◌, Bool, true, List, [], ◌∷◌, refl}
use Rattle.std.specs.Prelude.{◌&&◌}
use Rattle.std.proofs.lemmas.Bool.{and_from, and_parts}
use Rattle.bus_rules.specs.bus_trace.specs.declared.Row.{Row}
use Rattle.dialogue_model.specs.scenario.specs.Value.{ScenarioValue}
use Rattle.dialogue_model.specs.story_model.specs.BusState.{RowReading, row_reading}
use Rattle.due_model.specs.RunState.{RunState}
use Rattle.due_model.specs.RunSteps.{first_run_state, run_state, run_state_after}
use Rattle.due_model.specs.Faithful.{is_faithful, faithful}
use Rattle.due_model.specs.Telling.{is_true_telling, telling}
use Rattle.due_model.specs.Allowed.{is_allowed, allowed}
use Rattle.due_model.specs.Sound.{is_sound, sound}

-- Rows, the oldest first, on top of others, the newest first.
abbrev pub onto : List Row → List Row → List Row
onto [] before = before
onto (row ∷ rows) before = onto rows (row ∷ before)

abbrev row_holds : ScenarioValue → RunState → Row → RowReading → Bool
row_holds s k row d = is_faithful s k d && is_true_telling s k row d && is_allowed s k row d

-- The rows are given the oldest first.
abbrev pub rows_hold : ScenarioValue → RunState → List Row → Bool
rows_hold s k [] = true
rows_hold s k (row ∷ rows) = row_holds s k row (row_reading k.story.bus_state row)
    && (is_sound s (run_state_after s k row) && rows_hold s (run_state_after s k row) rows)

abbrev pub state_holds : ScenarioValue → RunState → List Row → Bool
state_holds s k rows = is_sound s k && rows_hold s k rows

pub record Hold (s : ScenarioValue) (rows : List Row) : Type 0 where
  pub faithful : faithful s rows ≡ true
  pub telling : telling s rows ≡ true
  pub allowed : allowed s rows ≡ true
  pub sound : sound s rows ≡ true

hold_on : (s : ScenarioValue) (rows before : List Row) → Hold s before → rows_hold s (run_state s before) rows ≡ true
    → Hold s (onto rows before)
hold_on s [] before h e = h
hold_on s (row ∷ rows) before h e =
    let k : RunState = run_state s before in
    let d : RowReading = row_reading k.story.bus_state row in
    let here = and_parts (row_holds s k row d) (state_holds s (run_state_after s k row) rows) e in
    let three = and_parts (is_faithful s k d && is_true_telling s k row d) (is_allowed s k row d) here.0 in
    let two = and_parts (is_faithful s k d) (is_true_telling s k row d) three.0 in
    let next = and_parts (is_sound s (run_state_after s k row)) (rows_hold s (run_state_after s k row) rows) here.1 in
    hold_on s rows (row ∷ before)
    (record {
      faithful = and_from (faithful s before) (is_faithful s k d) h.faithful two.0;
      telling = and_from (telling s before) (is_true_telling s k row d) h.telling two.1;
      allowed = and_from (allowed s before) (is_allowed s k row d) h.allowed three.1;
      sound = and_from (sound s before) (is_sound s (run_state_after s k row)) h.sound next.0;
    })
    next.1

-- Of a whole run.
pub all_hold : (s : ScenarioValue) (rows : List Row) → state_holds s (first_run_state s) rows ≡ true
    → Hold s (onto rows [])
all_hold s rows e =
    let start = and_parts (is_sound s (first_run_state s)) (rows_hold s (first_run_state s) rows) e in
    hold_on s rows [] (record { faithful = refl; telling = refl; allowed = refl; sound = start.0 }) start.1
