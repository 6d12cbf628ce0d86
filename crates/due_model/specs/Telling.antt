-- The events that the two ends of a connection show, each by what it knows itself, are those that the rows show.
use Rattle.std.specs.Prelude.{Bool, true, false, not, ◌&&◌, ◌||◌, ◌==◌, List, [], ◌∷◌, Option, Some, None, is_some}
use Rattle.std.specs.Prelude.{if◌then◌else◌}
use Rattle.bus_rules.specs.bus_base.specs.declared.ProcId.{ProcId}
use Rattle.bus_rules.specs.bus_base.specs.declared.AbortKind.{AbortKind}
use Rattle.bus_rules.specs.bus_base.specs.declared.AbortKind.TheVariants as aborts
use Rattle.bus_rules.specs.bus_base.specs.declared.Event.{Event}
use Rattle.bus_rules.specs.bus_base.specs.declared.Event.TheVariants as events
use Rattle.bus_rules.specs.bus_trace.specs.declared.Row.{Row}
use Rattle.bus_rules.specs.bus_trace.specs.declared.connection.Connection.{Connection}
use Rattle.bus_rules.specs.bus_trace.specs.Changes.{rises}
use Rattle.bus_rules.specs.bus_trace.specs.Phases.{changes_phase}
use Rattle.dialogue_model.specs.scenario.specs.Value.{ScenarioValue}
use Rattle.dialogue_model.specs.array_model.specs.Processes.{same_id}
use Rattle.dialogue_model.specs.story_model.specs.BusState.{RowReading, row_reading}
use Rattle.dialogue_model.specs.story_model.specs.Items.{Item, process, abort}
use Rattle.dialogue_model.specs.story_model.specs.Links.{Link}
use Rattle.dialogue_model.specs.story_model.specs.HistoryEvents.{row_events_by, carried_if, is_completion, end_events}
use Rattle.dialogue_model.specs.NextPhase.{phase_of}
use Rattle.dialogue_model.specs.Events.{leaving_events}
use Rattle.due_model.specs.RunState.{RunState, bus_of}
use Rattle.due_model.specs.Sights.{serving_of}
use Rattle.due_model.specs.RunSteps.{run_state}

-- ---- the target

abbrev pub id_of : Option Item → Option ProcId
id_of None = None
id_of (Some (process id)) = Some id
id_of (Some (abort n)) = None

-- Of no process the command is 0.
abbrev pub id_or_none : Option ProcId → ProcId
id_or_none None = record { command = 0; sense = false }
id_or_none (Some id) = id

abbrev pub target_events : ScenarioValue → RunState → Connection → Bool → List Event
target_events s k n stands = leaving_events (serving_of s k n.target) n k.exchange.begun stands (bus_of k).atn
    (phase_of (bus_of k)) (id_of k.served)

-- ---- the initiator, as it takes COMMAND COMPLETE

abbrev pub initiator_events : RunState → Option Link → RowReading → List Event
initiator_events k None d = []
initiator_events k (Some l) d = if is_completion l d.change then end_events (carried_if k.story l.item) else []

-- ---- a row

abbrev pub events_of_ends_in : ScenarioValue → RunState → Option Connection → RowReading → List Event
events_of_ends_in s k None d = []
events_of_ends_in s k (Some n) d =
    if changes_phase d.change || not (is_some d.next) then target_events s k n (is_some d.next)
    else initiator_events k k.story.link d

abbrev pub events_of_ends : ScenarioValue → RunState → Row → RowReading → List Event
events_of_ends s k row d =
    if d.change.after.rst then (if rises d.change.own.rst d.change.next.rst then events.Reset row.dev ∷ [] else [])
    else events_of_ends_in s k k.story.bus_state.connection d

-- ---- one list of events is the other

abbrev pub same_kind : AbortKind → AbortKind → Bool
same_kind aborts.All aborts.All = true
same_kind (aborts.Tag a) (aborts.Tag b) = a == b
same_kind aborts.WholeQueue aborts.WholeQueue = true
same_kind aborts.Device aborts.Device = true
same_kind _ _ = false

abbrev pub same_event : Event → Event → Bool
same_event (events.Accept a) (events.Accept b) = same_id a b
same_event (events.Refuse a) (events.Refuse b) = same_id a b
same_event (events.Run a) (events.Run b) = same_id a b
same_event (events.Fail a x) (events.Fail b y) = same_id a b && x == y
same_event (events.End a x) (events.End b y) = same_id a b && x == y
same_event (events.Lost a) (events.Lost b) = same_id a b
same_event (events.Aborted h t u x) (events.Aborted i v w y) = h == i && t == v && u == w && same_kind x y
same_event (events.Reset a) (events.Reset b) = a == b
same_event _ _ = false

abbrev pub same_events : List Event → List Event → Bool
same_events [] [] = true
same_events [] (f ∷ others) = false
same_events (e ∷ more) [] = false
same_events (e ∷ more) (f ∷ others) = same_event e f && same_events more others

abbrev pub is_true_telling : ScenarioValue → RunState → Row → RowReading → Bool
is_true_telling s k row d = same_events (events_of_ends s k row d) (row_events_by s k.story d row)

-- Of all rows.
abbrev pub telling : ScenarioValue → List Row → Bool
telling s [] = true
telling s (row ∷ rows) =
    telling s rows && is_true_telling s (run_state s rows) row (row_reading (run_state s rows).story.bus_state row)
