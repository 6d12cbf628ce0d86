-- All that is kept, row by row.
use Rattle.std.specs.Prelude.{ℕ, Bool, true, false, not, ◌&&◌, ◌||◌, List, [], ◌∷◌, drop, length, replicate, Option}
use Rattle.std.specs.Prelude.{Some, None, if◌then◌else◌}
use Rattle.bus_rules.specs.bus_base.specs.declared.Event.{Event}
use Rattle.bus_rules.specs.bus_trace.specs.declared.Row.{Row}
use Rattle.bus_rules.specs.bus_trace.specs.declared.connection.Connection.{Connection}
use Rattle.bus_rules.specs.bus_trace.specs.Terms.{is_fault, arbitration_after}
use Rattle.bus_rules.specs.bus_trace.specs.Phases.{changes_phase}
use Rattle.dialogue_model.specs.scenario.specs.Value.{ScenarioValue}
use Rattle.dialogue_model.specs.scenario.specs.Lookups.{units_of}
use Rattle.dialogue_model.specs.array_model.specs.Processes.{Process, same_id}
use Rattle.dialogue_model.specs.array_model.specs.Units.{RunningProcess, UnitState, Array}
use Rattle.dialogue_model.specs.array_model.specs.ArrayHistory as Play
use Rattle.dialogue_model.specs.story_model.specs.BusState.{RowReading, row_reading}
use Rattle.dialogue_model.specs.story_model.specs.Items.{Item, process, abort}
use Rattle.dialogue_model.specs.story_model.specs.Story.{empty_story}
use Rattle.dialogue_model.specs.story_model.specs.HistoryEvents.{row_events_by}
use Rattle.dialogue_model.specs.story_model.specs.TraceHistory.{story_with, aim_of}
use Rattle.dialogue_model.specs.story_model.specs.Samples.{faults_in_order}
use Rattle.bus_rules.specs.bus_trace.specs.Trace.{no_times, times_after, free_time}
use Rattle.due_model.specs.Own.{idle_device, owns_after}
use Rattle.dialogue_model.specs.bus_lines.specs.Handshakes.{no_handshakes, handshakes_after}
use Rattle.dialogue_model.specs.declared.exchange.Hearing.{Hearing}
use Rattle.dialogue_model.specs.declared.exchange.Messages.{Messages}
use Rattle.dialogue_model.specs.declared.exchange.Leaving.{Leaving}
use Rattle.dialogue_model.specs.Exchange.{Exchange, no_messages, no_exchange, no_speech, speech_of}
use Rattle.dialogue_model.specs.Speaking.{speech_after}
use Rattle.dialogue_model.specs.Planning.{plan_after, first_plan}
use Rattle.dialogue_model.specs.scenario.specs.declared.value.HostDef.{HostDef}
use Rattle.due_model.specs.LastingState.{Negotiated, none_negotiated, has_negotiated, with_negotiated, negotiated_after}
use Rattle.due_model.specs.LastingState.{ProcessProgress, progress_with}
use Rattle.due_model.specs.RunState.{RunState, or_start, process_served}
use Rattle.dialogue_model.specs.Wants.{Ready}
use Rattle.due_model.specs.Wants.{ready_of}
use Rattle.dialogue_model.specs.Words.{naming_messages}
use Rattle.due_model.specs.Defs.{host_of, opening}
use Rattle.due_model.specs.Sights.{hearing_of, leaving}

abbrev pub first_run_state : ScenarioValue → RunState
first_run_state s = record {
  story = empty_story;
  array = Play.array_after s [];
  current_since = replicate (length (units_of s)) 0;
  last = 0;
  ages = no_times;
  owns = replicate 8 idle_device;
  arbitration = None;
  handshakes = no_handshakes;
  exchange = no_exchange;
  served = None;
  negotiated = none_negotiated;
  progress = [];
  faults = faults_in_order s.faults;
}

-- ---- the plain disk array: the events are given the newest first

abbrev pub array_after_events : ScenarioValue → Option Array → List Event → Option Array
array_after_events s a [] = a
array_after_events s a (event ∷ shown) = Play.array_step s event (array_after_events s a shown)

-- Since when the current process of each unit is that.
abbrev pub is_same_running : Option RunningProcess → Option RunningProcess → Bool
is_same_running None b = false
is_same_running (Some a) None = false
is_same_running (Some a) (Some b) = same_id a.process.id b.process.id

abbrev pub current_times_after : List UnitState → List UnitState → List ℕ → ℕ → List ℕ
current_times_after [] after times time = []
current_times_after (u ∷ before) [] times time = []
current_times_after (u ∷ before) (v ∷ after) [] time = []
current_times_after (u ∷ before) (v ∷ after) (t ∷ times) time =
    (if is_same_running u.current v.current then t else time) ∷ current_times_after before after times time

abbrev pub current_times_if : ScenarioValue → RunState → List Event → Option Array → ℕ → List ℕ
current_times_if s k [] after time = k.current_since
current_times_if s k (event ∷ shown) after time =
    current_times_after (or_start s k.array).units (or_start s after).units k.current_since time

-- ---- what is said: a connection begins

abbrev pub messages_if : Option Ready → Messages
messages_if None = no_messages
messages_if (Some r) = naming_messages r.process

abbrev pub is_for_process : Option Item → Bool
is_for_process None = false
is_for_process (Some (process id)) = true
is_for_process (Some (abort n)) = false

-- A pair may negotiate in the first connection that its initiator begins, not for an abort.
abbrev pub may_negotiate : RunState → Connection → Option Item → Bool
may_negotiate k n item = is_for_process item && not (has_negotiated k.negotiated n.initiator n.target)

-- What the initiator says first in it.
abbrev pub opening_of : ScenarioValue → RunState → Connection → Option Item → List ℕ
opening_of s k n item = if n.reselected then [] else opening s n.initiator (may_negotiate k n item) item

-- What the target names in it, and whether it may negotiate.
abbrev pub naming_of : ScenarioValue → RunState → Connection → Messages
naming_of s k n = if n.reselected then messages_if (ready_of s k n.target) else no_messages

-- ---- a row in a connection

abbrev pub exchange_on : Option HostDef → Hearing → Leaving → Exchange → Exchange
exchange_on h w l t = record {
  begun = changes_phase w.change || t.begun;
  speech = speech_after h w t.speech;
  plan = plan_after w l t.plan;
}

abbrev pub first_exchange : ScenarioValue → RunState → Connection → Option Item → Exchange
first_exchange s k n item = record {
  begun = n.reselected;
  speech = speech_of no_speech (opening_of s k n item);
  plan = first_plan n.reselected (not n.reselected && may_negotiate k n item) (naming_of s k n);
}

abbrev pub exchange_after : ScenarioValue → RunState → Row → RowReading → Option Connection → Option Connection
    → Leaving → Exchange
exchange_after s k row d None None l = k.exchange
exchange_after s k row d (Some m) None l = no_exchange
exchange_after s k row d None (Some n) l = first_exchange s k n (aim_of k.story.aims n.initiator)
exchange_after s k row d (Some m) (Some n) l = exchange_on (host_of s n.initiator) (hearing_of k row d) l k.exchange

abbrev pub item_if : Option Ready → Option Item
item_if None = None
item_if (Some r) = Some (process r.process.id)

abbrev pub served_after : ScenarioValue → RunState → Option Connection → Option Connection → Option Item
served_after s k None None = k.served
served_after s k (Some m) None = None
served_after s k (Some m) (Some n) = k.served
served_after s k None (Some n) =
    if n.reselected then item_if (ready_of s k n.target) else aim_of k.story.aims n.initiator

-- ---- books

abbrev pub negotiated_by_connection : RunState → Option Connection → Option Connection → Negotiated
negotiated_by_connection k before None = k.negotiated
negotiated_by_connection k (Some m) (Some n) = k.negotiated
negotiated_by_connection k None (Some n) =
    if not n.reselected && is_for_process (aim_of k.story.aims n.initiator)
    then with_negotiated k.negotiated n.initiator n.target else k.negotiated

abbrev pub progress_by_leaving : RunState → Option Process → Leaving → List ProcessProgress
progress_by_leaving k None l = k.progress
progress_by_leaving k (Some p) l = progress_with k.progress p.id l.done l.counts

abbrev pub progress_after : ScenarioValue → RunState → RowReading → Option Connection → Option Connection → Leaving
    → List ProcessProgress
progress_after s k d (Some m) (Some n) l =
    if changes_phase d.change && k.exchange.begun then progress_by_leaving k (process_served s k) l else k.progress
progress_after s k d before after l = k.progress

-- ---- a row

abbrev pub run_state_with : ScenarioValue → RunState → Row → RowReading → List Event → Option Array → Leaving → RunState
run_state_with s k row d shown array l = record {
  story = story_with s k.story row d shown;
  array = array;
  current_since = current_times_if s k shown array row.time;
  last = row.time;
  ages = times_after k.ages d.change.before d.change.after row.time;
  owns = owns_after k.owns row d.change;
  arbitration = arbitration_after k.arbitration (free_time k.ages) d.change row;
  handshakes = handshakes_after (is_fault row.kind) d.next d.change row.time k.handshakes;
  exchange = exchange_after s k row d k.story.bus_state.connection d.next l;
  served = served_after s k k.story.bus_state.connection d.next;
  negotiated = negotiated_after s.version (negotiated_by_connection k k.story.bus_state.connection d.next) shown;
  progress = progress_after s k d k.story.bus_state.connection d.next l;
  faults = if is_fault row.kind then drop 1 k.faults else k.faults;
}

-- Where a connection stands, its target may leave the phase.
abbrev pub leaving_of : ScenarioValue → RunState → Option Connection → Leaving
leaving_of s k None = leaving s k 0
leaving_of s k (Some n) = leaving s k n.target

abbrev pub run_state_with_events : ScenarioValue → RunState → Row → RowReading → List Event → RunState
run_state_with_events s k row d shown =
    run_state_with s k row d shown (array_after_events s k.array shown) (leaving_of s k k.story.bus_state.connection)

abbrev pub run_state_by : ScenarioValue → RunState → Row → RowReading → RunState
run_state_by s k row d = run_state_with_events s k row d (row_events_by s k.story d row)

abbrev pub run_state_after : ScenarioValue → RunState → Row → RunState
run_state_after s k row = run_state_by s k row (row_reading k.story.bus_state row)

abbrev pub run_state : ScenarioValue → List Row → RunState
run_state s [] = first_run_state s
run_state s (row ∷ rows) = run_state_after s (run_state s rows) row

-- The events that a row shows after these rows, the newest first.
abbrev pub events_of_row : ScenarioValue → List Row → Row → List Event
events_of_row s rows row =
    row_events_by s (run_state s rows).story (row_reading (run_state s rows).story.bus_state row) row
