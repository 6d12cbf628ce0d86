-- What of the place of a served process in the plain disk array the target of its connection rests on: as the
-- connection begins, and by the phase (6.1.5, 7.5).
use Rattle.std.specs.Prelude.{◌≡◌, true, false, List, ◌∷◌, Some, None, is_some, is_none}
use Rattle.due_model.specs.bus_trace.specs.declared.Row.{Row}
use Rattle.due_model.specs.bus_trace.specs.declared.connection.Connection.{Connection}
use Rattle.due_model.specs.bus_trace.specs.Terms.{connection}
use Rattle.due_model.specs.bus_trace.specs.Trace.{bus}
use Rattle.due_model.specs.scenario.specs.Value.{ScenarioValue}
use Rattle.due_model.specs.array_model.specs.ArrayHistory.{reply_in}
use Rattle.due_model.specs.array_model.specs.Processes.{Process}
use Rattle.due_model.specs.array_model.specs.Steps.{running_process}
use Rattle.due_model.specs.array_model.specs.Units.{Array}
use Rattle.due_model.specs.dialogue_model.specs.declared.exchange.Next.{Next}
use Rattle.due_model.specs.dialogue_model.specs.declared.exchange.Phase.{Phase}
use Rattle.due_model.specs.dialogue_model.specs.NextPhase.{phase_of}
use Rattle.due_model.specs.RunState.{RunState, array_of, bus_of, process_served}
use Rattle.due_model.specs.RunSteps.{run_state}
use Rattle.scsi_device.specs.Heard.{gives_status, is_answered, is_beginning, is_command_phase, is_new, is_opening}
use Rattle.scsi_device.specs.Heard.{is_unanswered, moves_data}

-- It is new in COMMAND, runs without a reply while data move, and with one as its status is given.
pub record IsPlacedIn (a : Array) (c : Process) (phase : Phase) (next : Next) : Type 0 where
  pub new : is_command_phase phase ≡ true → is_new a c ≡ true
  pub unanswered : moves_data phase next ≡ true
      → (is_unanswered (running_process a c.id) ≡ true) × (is_none (reply_in a.replies c.id) ≡ true)
  pub answered : gives_status phase next ≡ true
      → (is_answered (running_process a c.id) ≡ true) × (is_some (reply_in a.replies c.id) ≡ true)

-- After the opening.
abbrev pub IsPlacedAt : ScenarioValue → RunState → Type 0
IsPlacedAt s k = is_opening k ≡ false → (c : Process) → process_served s k ≡ Some c
    → IsPlacedIn (array_of s k) c (phase_of (bus_of k)) k.exchange.plan.next

abbrev pub ArePlaced : ScenarioValue → List Row → Type 0
ArePlaced s rows =
    (n : Connection) → connection rows ≡ Some n → (bus rows).rst ≡ false → IsPlacedAt s (run_state s rows)

-- As a connection begins.
abbrev pub BeginsPlaced : ScenarioValue → List Row → Row → Type 0
BeginsPlaced s rows row =
    (n : Connection) → connection rows ≡ None → connection (row ∷ rows) ≡ Some n → (bus (row ∷ rows)).rst ≡ false
    → is_beginning s (run_state s (row ∷ rows)) n (process_served s (run_state s (row ∷ rows))) ≡ true
