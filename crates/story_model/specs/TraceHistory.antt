-- What the rows of a scenario's trace tell: its history, and what each process carried. Each row tells by the rows
-- before it; nothing is asked of a device.
use Rattle.std.specs.Prelude.{ℕ, zero, suc, ◌%◌, Bool, true, false, not, ◌&&◌, ◌==◌, List, [], ◌∷◌, ◌++◌, slice_set}
use Rattle.std.specs.Prelude.{Option, Some, None, is_some, is_none, nat_lt, if◌then◌else◌}
use Rattle.bus_phases.specs.bus_base.specs.declared.Event.{Event}
use Rattle.bus_phases.specs.bus_trace.specs.declared.Row.{Row}
use Rattle.bus_phases.specs.bus_trace.specs.declared.Kind.{Kind}
use Rattle.bus_phases.specs.bus_trace.specs.declared.Kind.TheVariants.{Drives, Fault}
use Rattle.bus_phases.specs.bus_trace.specs.declared.changes.Change.{Change}
use Rattle.bus_phases.specs.bus_trace.specs.declared.selection.Call.{Call}
use Rattle.bus_phases.specs.bus_trace.specs.declared.selection.Calling.{Calling}
use Rattle.bus_phases.specs.bus_trace.specs.declared.connection.Connection.{Connection}
use Rattle.bus_phases.specs.bus_trace.specs.Changes.{rises, falls}
use Rattle.bus_phases.specs.msg_grammar.specs.declared.message.MsgOut.{MsgOut}
use Rattle.bus_phases.specs.msg_grammar.specs.declared.message.MsgOut.TheVariants as to_target
use Rattle.bus_phases.specs.msg_grammar.specs.declared.message.MsgIn.{MsgIn}
use Rattle.array_model.specs.scenario.specs.declared.value.HostDef.{HostDef}
use Rattle.array_model.specs.scenario.specs.Value.{ScenarioValue}
use Rattle.story_model.specs.BusState.{BusState, RowReading, row_reading, bus_state_after}
use Rattle.story_model.specs.Items.{Item, process, abort, count_item, item_at}
use Rattle.story_model.specs.Links.{Link, link_of, last_out, last_in, link_after_name}
use Rattle.story_model.specs.CarriedBytes.{CarriedBytes, carried_of, with_carried, with_restored_pointers}
use Rattle.story_model.specs.CarriedBytes.{carried_after_message, carried_after_byte, carried_after_fault}
use Rattle.story_model.specs.Story.{Story, empty_story, unanswered, story_with_over, story_with_end, story_after_events}
use Rattle.story_model.specs.HistoryEvents.{carried_if, row_events_by}
use Rattle.array_model.specs.Seats.{is_initiator}

-- ---- arbitration and selection

-- A device enters: it raises BSY, neither in a connection nor as an answer.
abbrev pub is_arbitration_entry : Story → RowReading → Bool
is_arbitration_entry b d =
    rises d.change.own.bsy d.change.next.bsy && not d.change.before.sel && is_none b.bus_state.connection

abbrev pub aim_of : List (Option Item) → ℕ → Option Item
aim_of [] dev = None
aim_of (item ∷ items) zero = item
aim_of (item ∷ items) (suc dev) = aim_of items dev

abbrev pub story_with_aim : ScenarioValue → Story → Row → Story
story_with_aim s b row = record b {
  aims = slice_set b.aims row.dev (if is_initiator s.hosts row.dev then item_at s b.sent row.dev row.time else None);
}

abbrev pub retries_of : List HostDef → ℕ → ℕ
retries_of [] dev = 0
retries_of (h ∷ hosts) dev = if h.dev == dev then h.retries else retries_of hosts dev

abbrev pub story_without_answer : Story → Item → Story
story_without_answer b (process id) = story_with_end b id unanswered
story_without_answer b (abort k) = story_with_over b (abort k)

-- For an automatic REQUEST SENSE it calls without limit.
abbrev pub is_counted : Item → Bool
is_counted (process id) = not id.sense
is_counted (abort k) = true

abbrev pub story_with_try : ScenarioValue → Story → ℕ → Option Item → Story
story_with_try s b dev None = b
story_with_try s b dev (Some item) =
    let next : Story = record b { sent = record b.sent { tries = item ∷ b.sent.tries } } in
    if is_counted item && nat_lt (retries_of s.hosts dev) (count_item next.sent.tries item)
    then story_without_answer next item else next

-- The caller ends its calling without an answer.
abbrev pub story_after_calling_by : ScenarioValue → Story → ℕ → Option Calling → Story
story_after_calling_by s b dev None = b
story_after_calling_by s b dev (Some k) =
    if is_none k.answered && not k.reselects then story_with_try s b dev (aim_of b.aims dev) else b

abbrev pub story_after_calling : ScenarioValue → Story → Option Call → Story
story_after_calling s b None = b
story_after_calling s b (Some k) = story_after_calling_by s b k.caller k.calling

abbrev pub story_on_free_bus : ScenarioValue → Story → RowReading → Row → Story
story_on_free_bus s b d row =
    if is_arbitration_entry b d then story_with_aim s b row
    else if falls d.change.before.sel d.change.after.sel then story_after_calling s b b.bus_state.call
    else b

-- ---- a connection begins

abbrev pub story_with_restored : Story → Option Item → Story
story_with_restored b None = b
story_with_restored b (Some (process id)) =
    record b { carried = with_carried b.carried (with_restored_pointers (carried_of b.carried id)) }
story_with_restored b (Some (abort k)) = b

abbrev pub story_with_sent : Story → Option Item → Story
story_with_sent b None = b
story_with_sent b (Some item) = record b { sent = record b.sent { sent = item ∷ b.sent.sent } }

abbrev pub story_after_connection : Story → Connection → Story
story_after_connection b n =
    if n.reselected then record b { link = Some (link_of n None) } else story_with_restored
    (story_with_sent (record b { link = Some (link_of n (aim_of b.aims n.initiator)) }) (aim_of b.aims n.initiator))
    (aim_of b.aims n.initiator)

-- ---- in a connection: messages

abbrev pub story_with_carried : Story → Option CarriedBytes → Story
story_with_carried b None = b
story_with_carried b (Some k) = record b { carried = with_carried b.carried k }

abbrev pub is_parity_error : MsgOut → Bool
is_parity_error to_target.ParityError = true
is_parity_error _ = false

abbrev pub story_after_out : Story → Link → Option MsgOut → Story
story_after_out b l None = b
story_after_out b l (Some m) = story_with_carried (record b { link = Some (record l { last = last_out m l }) })
    (if is_parity_error m then l.undo else None)

abbrev pub carried_after_message_if : Option CarriedBytes → MsgIn → Option CarriedBytes
carried_after_message_if None m = None
carried_after_message_if (Some k) m = Some (carried_after_message k m)

-- The message came while the connection belonged to this item, or has just named it.
abbrev pub story_after_message : ScenarioValue → Story → Link → MsgIn → Story
story_after_message s b l m =
    story_with_carried (record b { link = Some l }) (carried_after_message_if (carried_if b l.item) m)

abbrev pub story_after_name : ScenarioValue → Story → Link → Link → MsgIn → Story
story_after_name s b l next m =
    story_after_message s (if is_none l.item then story_with_restored b next.item else b)
    (record next { last = last_in m; before = l.last; undo = carried_if b l.item }) m

abbrev pub story_after_in : ScenarioValue → Story → Link → Option MsgIn → Story
story_after_in s b l None = b
story_after_in s b l (Some m) = story_after_name s b l (link_after_name b.sent s.commands l m) m

-- ---- in a connection: bytes, faults and phases

abbrev pub carried_after_byte_if : Option CarriedBytes → RowReading → Option CarriedBytes
carried_after_byte_if None d = None
carried_after_byte_if (Some k) d = Some (carried_after_byte k d.change.before (d.change.after.data_bits % 256))

-- A byte is carried in COMMAND, DATA and STATUS alone; one of a message changes nothing here.
abbrev pub story_after_byte : Story → Link → RowReading → Story
story_after_byte b l d =
    if d.change.before.msg then b else story_with_carried b (carried_after_byte_if (carried_if b l.item) d)

abbrev pub carried_after_fault_if : Option CarriedBytes → Option Change → Option CarriedBytes
carried_after_fault_if None c = None
carried_after_fault_if (Some k) None = Some k
carried_after_fault_if (Some k) (Some c) = Some (carried_after_fault k c.before)

abbrev pub story_after_fault : Story → Link → Kind → Story
story_after_fault b l (Drives lines) = b
story_after_fault b l (Fault bit) =
    story_with_carried b (carried_after_fault_if (carried_if b l.item) b.bus_state.crossed)

abbrev pub story_after_crossing : ScenarioValue → Story → Link → RowReading → Story
story_after_crossing s b l d =
    if is_some d.out then story_after_out b l d.out
    else if is_some d.into then story_after_in s b l d.into
    else story_after_byte b l d

abbrev pub story_in_connection : ScenarioValue → Story → Option Link → RowReading → Row → Story
story_in_connection s b None d row = b
story_in_connection s b (Some l) d row =
    if d.crosses then story_after_crossing s b l d else story_after_fault b l row.kind

-- ---- a row

abbrev pub story_on_bus : ScenarioValue → Story → Option Connection → Option Connection → RowReading → Row → Story
story_on_bus s b None None d row = story_on_free_bus s b d row
story_on_bus s b None (Some n) d row = story_after_connection b n
story_on_bus s b (Some m) None d row = record b { link = None }
story_on_bus s b (Some m) (Some n) d row = story_in_connection s b b.link d row

-- RST ends the connection.
abbrev pub story_by_change : ScenarioValue → Story → RowReading → Row → Story
story_by_change s b d row =
    if d.change.after.rst then record b { link = None } else story_on_bus s b b.bus_state.connection d.next d row

abbrev pub story_with_history : Story → BusState → List Event → List Event → Story
story_with_history b state shown history = record b { bus_state = state; history = shown ++ history }

abbrev pub story_with : ScenarioValue → Story → Row → RowReading → List Event → Story
story_with s b row d shown = story_with_history (story_after_events s (story_by_change s b d row) shown)
    (bus_state_after b.bus_state row d) shown b.history

abbrev pub story_by : ScenarioValue → Story → Row → RowReading → Story
story_by s b row d = story_with s b row d (row_events_by s b d row)

abbrev pub story_after : ScenarioValue → Story → Row → Story
story_after s b row = story_by s b row (row_reading b.bus_state row)

-- The events that a row shows after this story.
abbrev pub row_events : ScenarioValue → Story → Row → List Event
row_events s b row = row_events_by s b (row_reading b.bus_state row) row

-- The story of these rows, the newest first; and their history, the newest event first.
abbrev pub story : ScenarioValue → List Row → Story
story s [] = empty_story
story s (row ∷ rows) = story_after s (story s rows) row

abbrev pub trace_history : ScenarioValue → List Row → List Event
trace_history s rows = (story s rows).history
