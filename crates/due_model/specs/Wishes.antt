-- A row that begins, carries and tells nothing; and what the wishes of the devices are computed from, which it keeps.
use Rattle.std.specs.Prelude.{◌≡◌, ℕ, Bool, List, [], false, Option}
use Rattle.bus_rules.specs.bus_trace.specs.declared.Row.{Row}
use Rattle.bus_rules.specs.bus_trace.specs.Changes.{falls}
use Rattle.bus_rules.specs.bus_trace.specs.Terms.{is_fault}
use Rattle.bus_rules.specs.bus_trace.specs.Phases.{changes_phase}
use Rattle.dialogue_model.specs.scenario.specs.declared.value.FaultDef.{FaultDef}
use Rattle.dialogue_model.specs.scenario.specs.Value.{ScenarioValue}
use Rattle.dialogue_model.specs.array_model.specs.Units.{Array}
use Rattle.dialogue_model.specs.story_model.specs.PairAgreements.{PairAgreement}
use Rattle.dialogue_model.specs.story_model.specs.BusState.{RowReading, row_reading}
use Rattle.dialogue_model.specs.story_model.specs.Items.{Item, Sent}
use Rattle.dialogue_model.specs.story_model.specs.Links.{Link}
use Rattle.dialogue_model.specs.story_model.specs.CarriedBytes.{CarriedBytes}
use Rattle.dialogue_model.specs.story_model.specs.HistoryEvents.{row_events_by}
use Rattle.dialogue_model.specs.story_model.specs.TraceHistory.{is_arbitration_entry}
use Rattle.dialogue_model.specs.Exchange.{Exchange}
use Rattle.due_model.specs.LastingState.{Negotiated, ProcessProgress}
use Rattle.due_model.specs.RunState.{RunState}
use Rattle.due_model.specs.RunSteps.{run_state}

-- It drives lines and leaves RST false; no connection or phase begins or ends, SEL does not fall, no byte crosses, and
-- no event is shown.
pub record IsStillBy (s : ScenarioValue) (k : RunState) (row : Row) (d : RowReading) : Type 0 where
  pub lines : is_fault row.kind ≡ false
  pub reset : d.change.after.rst ≡ false
  pub connection : d.next ≡ k.story.bus_state.connection
  pub phase : changes_phase d.change ≡ false
  pub calling : falls d.change.before.sel d.change.after.sel ≡ false
  pub carries : d.crosses ≡ false
  pub tells : row_events_by s k.story d row ≡ []

abbrev pub IsStill : ScenarioValue → List Row → Row → Type 0
IsStill s rows row = IsStillBy s (run_state s rows) row (row_reading (run_state s rows).story.bus_state row)

-- In it a device enters arbitration.
abbrev pub is_entry_row : ScenarioValue → List Row → Row → Bool
is_entry_row s rows row =
    is_arbitration_entry (run_state s rows).story (row_reading (run_state s rows).story.bus_state row)

-- What is sent and over and in which order, to whom the connection belongs, what was carried, the plain disk array, and
-- the books of the two ends.
pub record Wishes : Type 0 where
  pub sent : Sent
  pub link : Option Link
  pub carried : List CarriedBytes
  pub array : Option Array
  pub current_since : List ℕ
  pub exchange : Exchange
  pub served : Option Item
  pub agreed : List PairAgreement
  pub negotiated : Negotiated
  pub progress : List ProcessProgress
  pub faults : List FaultDef

abbrev pub wishes_of : RunState → Wishes
wishes_of k = record {
  sent = k.story.sent;
  link = k.story.link;
  carried = k.story.carried;
  array = k.array;
  current_since = k.current_since;
  exchange = k.exchange;
  served = k.served;
  agreed = k.story.bus_state.agreed;
  negotiated = k.negotiated;
  progress = k.progress;
  faults = k.faults;
}
