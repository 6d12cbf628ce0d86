-- Writes come whole, over all rows of a run: a forward pass over the rows decides it.
use Rattle.bus_laws.proofs
use proofs.Names.{◌≡◌, Bool, true, List, [], ◌∷◌, refl, ◌&&◌, and_from, and_parts, Row, ScenarioValue, RowReading}
use proofs.Names.{row_reading, onto, RunState, first_run_state, run_state, run_state_after, hearing_of, Writer, writers}
use proofs.Names.{writers_after, is_written, written}

-- The rows are given the oldest first.
abbrev pub rows_written : ScenarioValue → RunState → List Writer → List Row → Bool
rows_written s k all [] = true
rows_written s k all (row ∷ rows) = is_written s k row (row_reading k.story.bus_state row) all && rows_written s
    (run_state_after s k row) (writers_after s k (hearing_of k row (row_reading k.story.bus_state row)) all) rows

written_on : (s : ScenarioValue) (rows before : List Row) → written s before ≡ true
    → rows_written s (run_state s before) (writers s before) rows ≡ true → written s (onto rows before) ≡ true
written_on s [] before h e = h
written_on s (row ∷ rows) before h e =
    let k : RunState = run_state s before in
    let d : RowReading = row_reading k.story.bus_state row in
    let all : List Writer = writers_after s k (hearing_of k row d) (writers s before) in
    let here = and_parts (is_written s k row d (writers s before))
    (rows_written s (run_state_after s k row) all rows) e in
    written_on s rows (row ∷ before) (and_from (written s before) (is_written s k row d (writers s before)) h here.0)
    here.1

-- Of a whole run.
pub all_written : (s : ScenarioValue) (rows : List Row) → rows_written s (first_run_state s) [] rows ≡ true
    → written s (onto rows []) ≡ true
all_written s rows e = written_on s rows [] refl e
