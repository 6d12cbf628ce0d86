-- The rows by which a command fails: fault rows of bytes of its COMMAND and DATA phases (6.6.10, 8.2.14.3).
use Rattle.std.specs.Prelude.{ℕ, Bool, false, ◌&&◌, ◌||◌, ◌==◌, List, [], ◌∷◌, Option, Some, None, if◌then◌else◌}
use Rattle.due_model.specs.bus_base.specs.declared.ProcId.{ProcId}
use Rattle.due_model.specs.bus_trace.specs.LineSet.{LineSet}
use Rattle.due_model.specs.bus_trace.specs.declared.Row.{Row}
use Rattle.due_model.specs.bus_trace.specs.declared.changes.Change.{Change}
use Rattle.due_model.specs.bus_trace.specs.Phases.{is_data, is_command}
use Rattle.due_model.specs.bus_trace.specs.Terms.{is_fault}
use Rattle.due_model.specs.cdb_codec.specs.declared.sense.TheConstants.{PARITY_ERROR, INITIATOR_DETECTED_ERROR}
use Rattle.due_model.specs.scenario.specs.Value.{ScenarioValue}
use Rattle.due_model.specs.array_model.specs.Processes.{same_id}
use Rattle.due_model.specs.story_model.specs.Items.{Item, process, abort}
use Rattle.due_model.specs.story_model.specs.Links.{Link}
use Rattle.due_model.specs.story_model.specs.Story.{Story}
use Rattle.due_model.specs.story_model.specs.TraceHistory.{story}

-- The connection belongs to this process.
abbrev pub is_item_of : Option Item → ProcId → Bool
is_item_of None id = false
is_item_of (Some (process p)) id = same_id p id
is_item_of (Some (abort n)) id = false

abbrev pub is_link_of : Option Link → ProcId → Bool
is_link_of None id = false
is_link_of (Some l) id = is_item_of l.item id

-- A byte of these lines, struck, makes a command fail with this code: SCSI PARITY ERROR in COMMAND and DATA OUT,
-- INITIATOR DETECTED ERROR MESSAGE RECEIVED in DATA IN.
abbrev pub fails_with : LineSet → ℕ → Bool
fails_with s code =
    if is_command s then code == PARITY_ERROR
    else if is_data s then (if s.io then code == INITIATOR_DETECTED_ERROR else code == PARITY_ERROR)
    else false

-- So did the byte that crossed last.
abbrev pub has_failing_byte : Option Change → ℕ → Bool
has_failing_byte None code = false
has_failing_byte (Some c) code = fails_with c.before code

-- The row is a fault row of such a byte of this process.
abbrev pub is_strike : Story → Row → ProcId → ℕ → Bool
is_strike b row id code = is_fault row.kind && is_link_of b.link id && has_failing_byte b.bus_state.crossed code

abbrev pub has_strike : ScenarioValue → List Row → ProcId → ℕ → Bool
has_strike s [] id code = false
has_strike s (row ∷ rows) id code = is_strike (story s rows) row id code || has_strike s rows id code
