-- What targets hear, over all rows of a run: a forward pass over the rows decides it.
use Rattle.bus_laws.proofs
use proofs.Names.{◌≡◌, Bool, true, List, [], ◌∷◌, refl, ◌&&◌, and_from, and_parts, Row, ScenarioValue, RowReading}
use proofs.Names.{row_reading, onto, RunState, first_run_state, run_state, run_state_after, Instructions}
use proofs.Names.{no_instructions, instructions, instructions_by, is_heard_after, heard}

-- The rows are given the oldest first.
abbrev pub rows_heard : ScenarioValue → RunState → Instructions → List Row → Bool
rows_heard s k i [] = true
rows_heard s k i (row ∷ rows) = is_heard_after s k (run_state_after s k row)
    (row_reading k.story.bus_state row) (instructions_by k row (row_reading k.story.bus_state row) i)
    && rows_heard s (run_state_after s k row) (instructions_by k row (row_reading k.story.bus_state row) i) rows

heard_on : (s : ScenarioValue) (rows before : List Row) → heard s before ≡ true
    → rows_heard s (run_state s before) (instructions s before) rows ≡ true → heard s (onto rows before) ≡ true
heard_on s [] before h e = h
heard_on s (row ∷ rows) before h e =
    let k : RunState = run_state s before in
    let d : RowReading = row_reading k.story.bus_state row in
    let i : Instructions = instructions_by k row d (instructions s before) in
    let here = and_parts (is_heard_after s k (run_state_after s k row) d i)
    (rows_heard s (run_state_after s k row) i rows) e in
    heard_on s rows (row ∷ before)
    (and_from (heard s before) (is_heard_after s k (run_state_after s k row) d i) h here.0) here.1

-- Of a whole run.
pub all_heard : (s : ScenarioValue) (rows : List Row) → rows_heard s (first_run_state s) no_instructions rows ≡ true
    → heard s (onto rows []) ≡ true
all_heard s rows e = heard_on s rows [] refl e
