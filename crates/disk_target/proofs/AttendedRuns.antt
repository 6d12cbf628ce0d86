-- What targets rest on beside what they hear, over all rows of a run: a forward pass over the rows decides it.
use Rattle.std.proofs.Common.{◌≡◌, Bool, true, List, [], ◌∷◌, refl}
use Rattle.std.specs.Prelude.{◌&&◌}
use Rattle.std.proofs.lemmas.Bool.{and_from, and_parts}
use Rattle.bus_trace.specs.declared.Row.{Row}
use Rattle.scenario.specs.Value.{ScenarioValue}
use Rattle.due_model.specs.story_model.specs.BusState.{RowReading, row_reading}
use Rattle.due_model.specs.RunState.{RunState}
use Rattle.due_model.specs.RunSteps.{first_run_state, run_state, run_state_after}
use Rattle.due_model.specs.Sights.{hearing_of}
use Rattle.due_model.proofs.Seams.{onto}
use Rattle.target_course.specs.scsi_device.specs.Heard.{Instructions, no_instructions, instructions, instructions_by}
use Rattle.target_course.specs.scsi_device.specs.Writes.{Writer, writers, writers_after}
use Rattle.disk_target.specs.Attended.{is_attended, attended}

-- The rows are given the oldest first.
abbrev pub rows_attended : ScenarioValue → RunState → Instructions → List Writer → List Row → Bool
rows_attended s k i all [] = true
rows_attended s k i all (row ∷ rows) =
    is_attended s k row (row_reading k.story.bus_state row) i all
    && rows_attended s (run_state_after s k row) (instructions_by k row (row_reading k.story.bus_state row) i)
    (writers_after s k (hearing_of k row (row_reading k.story.bus_state row)) all) rows

attended_on : (s : ScenarioValue) (rows before : List Row) → attended s before ≡ true
    → rows_attended s (run_state s before) (instructions s before) (writers s before) rows ≡ true
    → attended s (onto rows before) ≡ true
attended_on s [] before h e = h
attended_on s (row ∷ rows) before h e =
    let k : RunState = run_state s before in
    let d : RowReading = row_reading k.story.bus_state row in
    let i : Instructions = instructions s before in
    let all : List Writer = writers s before in
    let here = and_parts (is_attended s k row d i all) (rows_attended s (run_state_after s k row)
    (instructions_by k row d i) (writers_after s k (hearing_of k row d) all) rows) e in
    attended_on s rows (row ∷ before) (and_from (attended s before) (is_attended s k row d i all) h here.0) here.1

-- Of a whole run.
pub all_attended : (s : ScenarioValue) (rows : List Row)
    → rows_attended s (first_run_state s) no_instructions [] rows ≡ true → attended s (onto rows []) ≡ true
all_attended s rows e = attended_on s rows [] refl e
