-- The events of a transcript beside those of the history that the same rows tell of a scenario.
use Rattle.std.specs.Prelude.{ℕ, ◌≡◌, Bool, true, false, ◌&&◌, ◌==◌, List, [], ◌∷◌, reverse, Option, Some, None}
use Rattle.std.specs.Prelude.{if◌then◌else◌}
use Rattle.std.specs.List.{flat_map, list_any}
use Rattle.bus_base.specs.declared.ProcId.{ProcId}
use Rattle.bus_base.specs.declared.Event.{Event}
use Rattle.bus_base.specs.declared.Event.TheVariants as events
use Rattle.bus_trace.specs.declared.rows.Row.{Row}
use Rattle.scenario.specs.Value.{ScenarioValue}
use Rattle.story_model.specs.Items as told
use Rattle.story_model.specs.Items.{process, same_item}
use Rattle.story_model.specs.TraceHistory.{story, trace_history}
use Rattle.bus_transcript.specs.declared.item.Name.{Name}
use Rattle.bus_transcript.specs.declared.item.Item.{Item}
use Rattle.bus_transcript.specs.declared.item.Item.TheVariants as items
use Rattle.bus_transcript.specs.Processes.{same_nexus}
use Rattle.bus_transcript.specs.Rows.{transcript_of}
use Rattle.array_model.specs.Order.{same_number}

-- ---- resets

-- The device that an item shows to begin to drive RST; of an event likewise.
abbrev pub reset_shown : Item → List ℕ
reset_shown (items.Reset dev) = dev ∷ []
reset_shown _ = []

abbrev pub reset_told : Event → List ℕ
reset_told (events.Reset dev) = dev ∷ []
reset_told _ = []

-- Those of these items, and of these events, in their order.
abbrev pub resets_shown : List Item → List ℕ
resets_shown list = flat_map reset_shown list

abbrev pub resets_told : List Event → List ℕ
resets_told history = flat_map reset_told history

-- ---- the names of processes

abbrev pub same_name : Name → Name → Bool
same_name a b = same_nexus a b && a.number == b.number

-- The names of the connections that initiators began, in their order.
abbrev pub name_begun : Item → List Name
name_begun (items.Connect at name again) = if again then [] else name ∷ []
name_begun _ = []

abbrev pub names_begun : List Item → List Name
names_begun list = flat_map name_begun list

-- The name of the connection with which this process was sent. What initiators sent is given in its order, and so are
-- the names of the connections that they began, one for each.
abbrev pub name_sent : List told.Item → List Name → ProcId → Option Name
name_sent [] names id = None
name_sent (item ∷ sent) [] id = None
name_sent (item ∷ sent) (name ∷ names) id = if same_item item (process id) then Some name else name_sent sent names id

-- ---- a history with names in place of numbers

-- An event of the process of this name.
abbrev pub items_named : Name → Event → List Item
items_named name (events.Accept id) = items.Arrive name ∷ []
items_named name (events.Refuse id) = items.Arrive name ∷ []
items_named name (events.Run id) = items.Ready name ∷ []
items_named name (events.Fail id code) = items.Ready name ∷ []
items_named name (events.End id status) = items.End name (Some status) ∷ []
items_named name (events.Lost id) = items.Lost name ∷ []
items_named name _ = []

abbrev pub items_if : Option Name → Event → List Item
items_if None event = []
items_if (Some name) event = items_named name event

abbrev pub items_told : List told.Item → List Name → Event → List Item
items_told sent names (events.Accept id) = items_if (name_sent sent names id) (events.Accept id)
items_told sent names (events.Refuse id) = items_if (name_sent sent names id) (events.Refuse id)
items_told sent names (events.Run id) = items_if (name_sent sent names id) (events.Run id)
items_told sent names (events.Fail id code) = items_if (name_sent sent names id) (events.Fail id code)
items_told sent names (events.End id status) = items_if (name_sent sent names id) (events.End id status)
items_told sent names (events.Lost id) = items_if (name_sent sent names id) (events.Lost id)
items_told sent names (events.Aborted host target unit what) = items.Abort host target (Some unit) what ∷ []
items_told sent names (events.Reset dev) = items.Reset dev ∷ []

abbrev pub named_events : List told.Item → List Name → List Event → List Item
named_events sent names history = flat_map (λ event. items_told sent names event) history

abbrev pub named_history : ScenarioValue → List Row → List Item
named_history s rows =
    named_events (reverse (story s rows).sent.sent) (names_begun (transcript_of rows)) (reverse (trace_history s rows))

-- ---- the events of a transcript

abbrev pub named_if : Option Name → List Name
named_if None = []
named_if (Some name) = name ∷ []

abbrev pub refused_name : List told.Item → List Name → Event → List Name
refused_name sent names (events.Refuse id) = named_if (name_sent sent names id)
refused_name sent names _ = []

-- An item that is an event; of a process that was refused none is Ready.
abbrev pub event_shown : List Name → Item → List Item
event_shown refused (items.Arrive name) = items.Arrive name ∷ []
event_shown refused (items.Ready name) = if list_any (λ n. same_name n name) refused then [] else items.Ready name ∷ []
event_shown refused (items.End name status) = items.End name status ∷ []
event_shown refused (items.Lost name) = items.Lost name ∷ []
event_shown refused (items.Abort initiator target unit what) = items.Abort initiator target unit what ∷ []
event_shown refused (items.Reset dev) = items.Reset dev ∷ []
event_shown refused _ = []

abbrev pub refused_names : ScenarioValue → List Row → List Name
refused_names s rows = flat_map (λ event. refused_name (reverse (story s rows).sent.sent)
    (names_begun (transcript_of rows)) event) (reverse (trace_history s rows))

abbrev pub events_shown : ScenarioValue → List Row → List Item
events_shown s rows = flat_map (λ item. event_shown (refused_names s rows) item) (transcript_of rows)

-- The transcript of these rows has the events of their history.
abbrev pub TellsHistory : ScenarioValue → List Row → Type 0
TellsHistory s rows = events_shown s rows ≡ named_history s rows

-- ---- events stand in connections

-- The name of the connection that was begun last.
abbrev pub name_after : Option Name → Item → Option Name
name_after last (items.Connect at name again) = Some name
name_after last _ = last

abbrev pub last_name : Option Name → List Item → Option Name
last_name last [] = last
last_name last (item ∷ list) = last_name (name_after last item) list

abbrev pub is_last : Option Name → Name → Bool
is_last None name = false
is_last (Some last) name = same_name last name

abbrev pub is_of_last : Option Name → ℕ → ℕ → Option ℕ → Bool
is_of_last None initiator target unit = false
is_of_last (Some last) initiator target unit =
    last.initiator == initiator && last.target == target && same_number last.unit unit

-- An event of a process is of this connection's, and so is an abort.
abbrev pub is_in : Option Name → Item → Bool
is_in last (items.Arrive name) = is_last last name
is_in last (items.Ready name) = is_last last name
is_in last (items.End name status) = is_last last name
is_in last (items.Lost name) = is_last last name
is_in last (items.Abort initiator target unit what) = is_of_last last initiator target unit
is_in last _ = true

-- So it is of each of these items, after such a connection.
abbrev pub are_in : Option Name → List Item → Bool
are_in last [] = true
are_in last (item ∷ list) = is_in last item && are_in (name_after last item) list
