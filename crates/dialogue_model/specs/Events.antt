-- The events that the target of a connection shows as it leaves a phase, by what it knows itself.
use Rattle.std.specs.Prelude.{ℕ, Bool, true, false, not, ◌&&◌, List, [], ◌∷◌, Option, Some, None, if◌then◌else◌}
use Rattle.scenario.specs.bus_base.specs.declared.ProcId.{ProcId}
use Rattle.scenario.specs.bus_base.specs.declared.AbortKind.{AbortKind}
use Rattle.scenario.specs.bus_base.specs.declared.Event.{Event}
use Rattle.scenario.specs.bus_base.specs.declared.Event.TheVariants as events
use Rattle.story_model.specs.bus_trace.specs.declared.connection.Connection.{Connection}
use Rattle.scenario.specs.cdb_codec.specs.declared.sense.TheConstants.{PARITY_ERROR, INITIATOR_DETECTED_ERROR}
use Rattle.dialogue_model.specs.declared.exchange.Arrival.{Arrival}
use Rattle.dialogue_model.specs.declared.exchange.Arrival.TheVariants as arrivals
use Rattle.dialogue_model.specs.declared.exchange.Cause.{Cause}
use Rattle.dialogue_model.specs.declared.exchange.Cause.TheVariants as causes
use Rattle.dialogue_model.specs.declared.exchange.Phase.{Phase}
use Rattle.dialogue_model.specs.declared.exchange.Phase.TheVariants as phases
use Rattle.dialogue_model.specs.declared.exchange.Plan.{Plan}
use Rattle.dialogue_model.specs.declared.exchange.Said.{Said}
use Rattle.dialogue_model.specs.declared.exchange.Task.{Task}
use Rattle.dialogue_model.specs.NextPhase.{Serving, phase_leaving}

-- ---- to another phase

abbrev pub arrival_event : ProcId → Arrival → Event
arrival_event id arrivals.Refused = events.Refuse id
arrival_event id arrivals.Guest = events.Accept id
arrival_event id arrivals.AtOnce = events.Accept id
arrival_event id arrivals.Queued = events.Accept id

-- As an unstruck COMMAND is left the command arrives.
abbrev pub arrival_events : ProcId → Plan → Arrival → Phase → List Event
arrival_events id plan arrival phases.Command = if plan.struck then [] else arrival_event id arrival ∷ []
arrival_events id plan arrival _ = []

-- With the first STATUS phase: it gave up what it could not take (SCSI PARITY ERROR) or could not give (INITIATOR
-- DETECTED ERROR MESSAGE RECEIVED), or it was refused, or it runs.
abbrev pub detected_events : Cause → ProcId → List Event
detected_events causes.InData id = events.Fail id INITIATOR_DETECTED_ERROR ∷ []
detected_events _ id = events.Run id ∷ []

abbrev pub arrival_run_events : Arrival → ProcId → List Event
arrival_run_events arrivals.Refused id = []
arrival_run_events _ id = events.Run id ∷ []

abbrev pub reply_events : ProcId → Plan → Arrival → Phase → List Event
reply_events id plan arrival phases.Command =
    if plan.struck then events.Fail id PARITY_ERROR ∷ [] else arrival_run_events arrival id
reply_events id plan arrival phases.DataOut =
    if plan.struck then events.Fail id PARITY_ERROR ∷ [] else events.Run id ∷ []
reply_events id plan arrival phases.MessageOut = detected_events plan.cause id
reply_events id plan arrival _ = events.Run id ∷ []

abbrev pub is_status_next : Option Phase → Bool
is_status_next (Some phases.Status) = true
is_status_next _ = false

abbrev pub has_replied : Option Task → Bool
has_replied None = true
has_replied (Some t) = t.replied

abbrev pub event_if : Option Event → List Event
event_if None = []
event_if (Some e) = e ∷ []

abbrev pub is_empty : List Event → Bool
is_empty [] = true
is_empty (e ∷ shown) = false

-- The newest first.
abbrev pub newest_with : List Event → List Event → List Event
newest_with [] before = before
newest_with (e ∷ after) before = e ∷ before

abbrev pub turn_events : Serving → Bool → Phase → ProcId → List Event
turn_events v attention phase id =
    newest_with (if is_status_next (phase_leaving v attention phase).to && not (has_replied v.task)
    then reply_events id v.plan v.arrival phase else []) (arrival_events id v.plan v.arrival phase)

abbrev pub turn_events_if : Serving → Bool → Phase → Option ProcId → List Event
turn_events_if v attention phase None = []
turn_events_if v attention phase (Some id) = turn_events v attention phase id

-- ---- to BUS FREE: after an abort message (6.6.1 to 6.6.4), after COMMAND COMPLETE or DISCONNECT, or as it gives up

abbrev pub unit_or_0 : Option ℕ → ℕ
unit_or_0 None = 0
unit_or_0 (Some unit) = unit

abbrev pub abort_events : Connection → Said → AbortKind → List Event
abort_events n said what = events.Aborted n.initiator n.target (unit_or_0 said.unit) what ∷ []

abbrev pub loss_events : Option ProcId → List Event
loss_events None = []
loss_events (Some id) = events.Lost id ∷ []

abbrev pub after_opening_events : Connection → Said → Option AbortKind → Option ProcId → List Event
after_opening_events n said None id = loss_events id
after_opening_events n said (Some what) id = abort_events n said what

abbrev pub connection_end_events : Connection → Plan → Phase → Option ProcId → List Event
connection_end_events n plan phases.MessageOut id = after_opening_events n plan.said plan.said.aborts id
connection_end_events n plan phases.MessageIn id = []
connection_end_events n plan _ id = loss_events id

-- ---- the row with which it leaves a phase; the connection stands after it or not. Nothing is shown as the first phase
-- of all begins, or where the bus is left before it.
abbrev pub leaving_events : Serving → Connection → Bool → Bool → Bool → Phase → Option ProcId → List Event
leaving_events v n begun stands attention phase id =
    if not begun then []
    else if stands then turn_events_if v attention phase id
    else connection_end_events n v.plan phase id
