-- In DATA IN: the requests that wait for ACK, and the code of the failure of the process that is served. It fails where
-- ATN is true, or a struck byte waits for the ACK with which the initiator raises it (6.1.5.1, 6.1.5.2, 6.2.1, 6.6.10).
use Rattle.std.specs.Prelude.{◌≡◌, Bool, true, false, ◌||◌, ◌==◌, List, [], ◌∷◌, Some, is_some}
use Rattle.due_model.specs.bus_base.specs.declared.ProcId.{ProcId}
use Rattle.due_model.specs.bus_trace.specs.declared.Row.{Row}
use Rattle.due_model.specs.bus_trace.specs.declared.connection.Connection.{Connection}
use Rattle.due_model.specs.bus_trace.specs.Terms.{connection, receiver}
use Rattle.due_model.specs.bus_trace.specs.Trace.{bus}
use Rattle.due_model.specs.bus_lines.specs.Handshakes.{Handshakes, handshakes, first_of}
use Rattle.due_model.specs.cdb_codec.specs.declared.sense.TheConstants.{INITIATOR_DETECTED_ERROR}
use Rattle.due_model.specs.scenario.specs.Value.{ScenarioValue}
use Rattle.due_model.specs.story_model.specs.Items.{process}
use Rattle.due_model.specs.dialogue_model.specs.Hearing.{begun}
use Rattle.due_model.specs.dialogue_model.specs.NextPhase.{phase_of}
use Rattle.due_model.specs.RunState.{carried_here}
use Rattle.due_model.specs.RunSteps.{run_state}
use Rattle.story_laws.specs.Complaints.{any_struck}
use Rattle.story_laws.specs.row_laws.specs.ItemTalks.{awaits}
use Rattle.story_laws.specs.RunCounts.{pulses_here}
use Rattle.story_laws.specs.row_laws.specs.Tells.{code_if}
use Rattle.due_model.specs.dialogue_model.specs.declared.exchange.Phase.TheVariants as phases

-- Byte by byte the newest request alone waits, from REQ to ACK.
pub record IsNewest (h : Handshakes) : Type 0 where
  pub asked : (h.requests == 0) ≡ false
  pub alone : h.waiting ≡ record { time = h.last_req; struck = h.struck } ∷ []

abbrev pub WaitsFor : Handshakes → Bool → Type 0
WaitsFor h true = IsNewest h
WaitsFor h false = h.waiting ≡ []

pub record SentTalk (s : ScenarioValue) (rows : List Row) : Type 0 where
  -- a byte that crossed in the last row, which a fault may strike, is of a request that waits
  pub received : is_some (receiver rows) ≡ true → is_some (first_of (handshakes rows).waiting) ≡ true
  pub waits : pulses_here rows ≡ false → WaitsFor (handshakes rows) (awaits (bus rows))
  pub code : (id : ProcId) → (run_state s rows).served ≡ Some (process id)
      → (carried_here (run_state s rows) id).failure
      ≡ code_if ((bus rows).atn || any_struck (handshakes rows).waiting) INITIATOR_DETECTED_ERROR

abbrev pub SentFacts : ScenarioValue → List Row → Type 0
SentFacts s rows = (n : Connection) → connection rows ≡ Some n → (bus rows).rst ≡ false → begun rows ≡ true
    → phase_of (bus rows) ≡ phases.DataIn → SentTalk s rows
