-- The events that a row shows, by what is known before it.
use Rattle.std.specs.Prelude.{ℕ, zero, suc, Bool, true, false, not, ◌&&◌, List, [], ◌∷◌, slice_index, Option, Some}
use Rattle.std.specs.Prelude.{None, is_some, if◌then◌else◌}
use Rattle.std.specs.List.{list_any}
use Rattle.bus_phases.specs.bus_base.specs.declared.ProcId.{ProcId}
use Rattle.bus_phases.specs.bus_base.specs.declared.Event.{Event}
use Rattle.bus_phases.specs.bus_base.specs.declared.Event.TheVariants as events
use Rattle.bus_phases.specs.bus_trace.specs.LineSet.{LineSet}
use Rattle.bus_phases.specs.bus_trace.specs.declared.Row.{Row}
use Rattle.bus_phases.specs.bus_trace.specs.declared.changes.Change.{Change}
use Rattle.bus_phases.specs.bus_trace.specs.Changes.{rises}
use Rattle.bus_phases.specs.bus_trace.specs.Phases.{is_command, is_message_in, changes_phase}
use Rattle.array_model.specs.scenario.specs.declared.value.AbortDef.{AbortDef}
use Rattle.array_model.specs.scenario.specs.Value.{ScenarioValue}
use Rattle.array_model.specs.ArrayHistory.{array_after}
use Rattle.story_model.specs.BusState.{RowReading}
use Rattle.story_model.specs.Items.{Item, process, abort}
use Rattle.story_model.specs.Links.{Link, LastMessage, plain, complete, disconnect, abortive}
use Rattle.story_model.specs.CarriedBytes.{CarriedBytes, carried_of, is_whole_block, is_status_phase}
use Rattle.story_model.specs.Story.{Story}

abbrev pub carried_if : Story → Option Item → Option CarriedBytes
carried_if b None = None
carried_if b (Some (process id)) = Some (carried_of b.carried id)
carried_if b (Some (abort k)) = None

-- ---- a command arrives (6.1.6, 7.8)

-- The command block stands whole, and no fault struck it, as COMMAND is left. At a full queue the command is refused.
abbrev pub queue_event : ScenarioValue → List Event → ProcId → Event
queue_event s history id =
    if is_some (array_after s (events.Accept id ∷ history)) then events.Accept id else events.Refuse id

abbrev pub queue_events : ScenarioValue → Story → Option CarriedBytes → LineSet → List Event
queue_events s b None before = []
queue_events s b (Some k) before =
    if is_command before && is_whole_block k then queue_event s b.history k.id ∷ [] else []

-- ---- the first STATUS phase of a process that was not refused (7.3)

abbrev pub is_refuse : Event → Bool
is_refuse (events.Refuse id) = true
is_refuse _ = false

abbrev pub status_event : ProcId → Option ℕ → Event
status_event id None = events.Run id
status_event id (Some code) = events.Fail id code

abbrev pub status_events : Option CarriedBytes → LineSet → List Event → List Event
status_events None after arrived = arrived
status_events (Some k) after arrived =
    if is_status_phase after && not k.shown && not k.refused && not (list_any (λ e. is_refuse e) arrived)
    then status_event k.id k.failure ∷ arrived else arrived

abbrev pub phase_events : ScenarioValue → Story → Option CarriedBytes → Change → List Event
phase_events s b k c = status_events k c.after (queue_events s b k c.before)

-- ---- the initiator takes COMMAND COMPLETE (6.6.5)

abbrev pub is_complete : LastMessage → Bool
is_complete complete = true
is_complete plain = false
is_complete disconnect = false
is_complete abortive = false

abbrev pub is_completion : Link → Change → Bool
is_completion l c = rises c.before.ack c.after.ack && is_message_in c.before && is_complete l.last && not c.after.atn

abbrev pub end_events : Option CarriedBytes → List Event
end_events None = []
end_events (Some k) = events.End k.id (slice_index k.status.bytes 0) ∷ []

-- ---- the target leaves (6.1.1, 6.6)

abbrev pub item_loss_events : Option Item → List Event
item_loss_events None = []
item_loss_events (Some (process id)) = events.Lost id ∷ []
item_loss_events (Some (abort k)) = []

abbrev pub abort_line_at : List AbortDef → ℕ → Option AbortDef
abort_line_at [] n = None
abort_line_at (a ∷ aborts) zero = None
abort_line_at (a ∷ aborts) (suc zero) = Some a
abort_line_at (a ∷ aborts) (suc (suc n)) = abort_line_at aborts (suc n)

abbrev pub abort_line_events : Option AbortDef → List Event
abort_line_events None = []
abort_line_events (Some a) = events.Aborted a.host a.target a.unit a.what ∷ []

abbrev pub item_abort_events : ScenarioValue → Option Item → List Event
item_abort_events s None = []
item_abort_events s (Some (process id)) = []
item_abort_events s (Some (abort k)) = abort_line_events (abort_line_at s.aborts k)

abbrev pub bus_free_events : ScenarioValue → Link → LastMessage → List Event
bus_free_events s l plain = item_loss_events l.item
bus_free_events s l complete = []
bus_free_events s l disconnect = []
bus_free_events s l abortive = item_abort_events s l.item

-- ---- a row

abbrev pub connection_events : ScenarioValue → Story → Link → RowReading → List Event
connection_events s b l d =
    if changes_phase d.change then phase_events s b (carried_if b l.item) d.change
    else if is_completion l d.change then end_events (carried_if b l.item)
    else []

abbrev pub link_events : ScenarioValue → Story → Option Link → RowReading → List Event
link_events s b None d = []
link_events s b (Some l) d = if is_some d.next then connection_events s b l d else bus_free_events s l l.last

-- The newest first. A row after which RST is true shows no event but the reset of its device.
abbrev pub row_events_by : ScenarioValue → Story → RowReading → Row → List Event
row_events_by s b d row =
    if d.change.after.rst then (if rises d.change.own.rst d.change.next.rst then events.Reset row.dev ∷ [] else [])
    else link_events s b b.link d
