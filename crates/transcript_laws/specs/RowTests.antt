-- What a row must be for the transcript to go on as the story does, as a test on both.
use Rattle.std.specs.Prelude.{ℕ, Bool, true, false, not, ◌&&◌, ◌||◌, ◌==◌, List, [], ◌∷◌, Option, Some, None, is_some}
use Rattle.std.specs.Prelude.{is_none, if◌then◌else◌}
use Rattle.std.specs.List.{list_any}
use Rattle.due_model.specs.bus_trace.specs.LineSet.{LineSet}
use Rattle.due_model.specs.bus_trace.specs.declared.Row.{Row}
use Rattle.due_model.specs.bus_trace.specs.declared.changes.Change.{Change}
use Rattle.due_model.specs.bus_trace.specs.declared.connection.Connection.{Connection}
use Rattle.due_model.specs.bus_trace.specs.Changes.{rises}
use Rattle.due_model.specs.bus_trace.specs.Phases.{is_command, is_message_in, is_message_out, changes_phase}
use Rattle.due_model.specs.msg_grammar.specs.declared.message.MsgIn.{MsgIn}
use Rattle.due_model.specs.msg_grammar.specs.declared.message.MsgOut.{MsgOut}
use Rattle.due_model.specs.scenario.specs.declared.value.AbortDef.{AbortDef}
use Rattle.due_model.specs.scenario.specs.Value.{ScenarioValue}
use Rattle.due_model.specs.array_model.specs.Processes.{Process, process_of, same_bool}
use Rattle.due_model.specs.array_model.specs.Order.{same_number}
use Rattle.due_model.specs.bus_phases.specs.Half.{is_nil}
use Rattle.due_model.specs.story_model.specs.BusState.{RowReading, row_reading}
use Rattle.due_model.specs.story_model.specs.CarriedBytes.{CarriedBytes, carried_at, carried_of, is_whole_block}
use Rattle.due_model.specs.story_model.specs.CarriedBytes.{is_status_phase}
use Rattle.due_model.specs.story_model.specs.HistoryEvents as story_of
use Rattle.due_model.specs.story_model.specs.HistoryEvents.{abort_line_at}
use Rattle.due_model.specs.story_model.specs.Items.{Item, process, abort, Sent, has_item}
use Rattle.due_model.specs.story_model.specs.Links.{Link, LastMessage, plain, complete, disconnect, abortive}
use Rattle.due_model.specs.story_model.specs.Links.{link_after_name}
use Rattle.due_model.specs.story_model.specs.Right.{same_bytes}
use Rattle.due_model.specs.story_model.specs.Story.{Story, by_reset, story_with_ends}
use Rattle.due_model.specs.story_model.specs.TraceHistory.{aim_of, story, story_after, is_parity_error}
use Rattle.due_model.specs.Telling.{same_kind}
use Rattle.progress_laws.specs.book_laws.specs.Accounts.{is_open_in}
use Rattle.progress_laws.specs.book_laws.specs.RowTests.{same_item_if}
use Rattle.bus_transcript.specs.declared.part.Incoming.{Incoming}
use Rattle.bus_transcript.specs.declared.part.Incoming.TheVariants.{Broken}
use Rattle.bus_transcript.specs.declared.part.Part.{Part}
use Rattle.bus_transcript.specs.declared.summary.Departure.{Departure}
use Rattle.bus_transcript.specs.declared.summary.Departure.TheVariants.{Loss, Leave, Abortion}
use Rattle.bus_transcript.specs.declared.summary.Summary.{Summary}
use Rattle.bus_transcript.specs.Nexus.{kind_of}
use Rattle.bus_transcript.specs.Opened.{OpenedValue, is_complete, settled, phase_over}
use Rattle.bus_transcript.specs.Rows.{TranscriberValue, transcribed, after_row}
use Rattle.transcript_laws.specs.Parts.{are_talk, parts_now, is_void, is_known, summary_by, nexus_of, is_of}
use Rattle.transcript_laws.specs.Parts.{name_process}

-- ---- a connection begins

-- What was neither sent nor has carried anything.
abbrev pub is_fresh : Story → Option Item → Bool
is_fresh b None = false
is_fresh b (Some (process id)) = not (has_item b.sent.sent (process id)) && is_none (carried_at b.carried id)
is_fresh b (Some (abort j)) = not (has_item b.sent.sent (abort j))

-- A process that is open and has the nexus of this one.
abbrev pub shares_nexus : ScenarioValue → Sent → Option Process → Item → Bool
shares_nexus s b None item = false
shares_nexus s b (Some p) (process id) = is_open_in b id && is_of (nexus_of p) (process_of s id)
shares_nexus s b (Some p) (abort j) = false

-- A process begins where no other of its nexus is open.
abbrev pub is_alone : ScenarioValue → Story → Option Item → Bool
is_alone s b (Some (process id)) = not (list_any (λ item. shares_nexus s b.sent (process_of s id) item) b.sent.sent)
is_alone s b _ = true

-- ---- a byte crosses

abbrev pub is_empty : List Part → Bool
is_empty [] = true
is_empty (part ∷ parts) = false

abbrev pub says_first : Bool → List MsgOut → Bool
says_first anew [] = true
says_first anew (m ∷ said) = anew

-- It was left before it was whole, and has changed nothing.
abbrev pub is_broken : Option Incoming → Bool
is_broken (Some Broken) = true
is_broken _ = false

-- MESSAGE PARITY ERROR comes right after the message that it refuses, and alone; of a known process it brings something
-- back, but for a message that was broken off.
abbrev pub fits_out : OpenedValue → Bool → Option MsgOut → Bool → Bool
fits_out k backs None anew = not (is_void k.said)
fits_out k backs (Some m) anew =
    if is_parity_error m then says_first anew k.said && is_some k.held && is_empty k.since && backs
    else not (is_void k.said)

-- The item stays as it is, or the target names it.
abbrev pub names_item : Bool → Option Item → Option Item → Bool
names_item known was next =
    if known then same_item_if was next else is_none was || is_none next || same_item_if was next

abbrev pub fits_in : ScenarioValue → Story → OpenedValue → Link → Option MsgIn → Bool
fits_in s b k l None = true
fits_in s b k l (Some m) = names_item (is_known k b.bus_state.bus) l.item (link_after_name b.sent s.commands l m).item

abbrev pub is_no_abort : Option Item → Bool
is_no_abort (Some (abort j)) = false
is_no_abort _ = true

abbrev pub fits_crossing : ScenarioValue → Story → OpenedValue → Link → RowReading → Bool
fits_crossing s b k l d = not (changes_phase d.change) && not (story_of.is_completion l d.change)
    && (if is_message_out d.change.before then fits_out k
    (not (is_known k b.bus_state.bus) || is_some l.undo || is_broken k.held) d.out b.bus_state.dialogue.is_last
    else if is_message_in d.change.before then fits_in s b k l d.into
    else not d.change.before.msg && is_no_abort l.item)

-- ---- a phase is left

-- What MESSAGE PARITY ERROR would bring back is what holds, but for data.
abbrev pub is_alike : CarriedBytes → CarriedBytes → Bool
is_alike u c = same_bytes u.block c.block && same_bool u.struck c.struck && same_bytes u.status.bytes c.status.bytes
    && u.status.active == c.status.active && u.status.saved == c.status.saved && same_bool u.shown c.shown
    && same_bool u.refused c.refused

abbrev pub undoes_nothing : Story → Link → Option CarriedBytes → Bool
undoes_nothing b l None = true
undoes_nothing b l (Some u) = is_alike u (carried_of b.carried u.id)

abbrev pub is_open_item : Story → Option Item → Bool
is_open_item b (Some (process id)) = is_open_in b.sent id
is_open_item b _ = false

-- A command that arrives has shown nothing yet.
abbrev pub arrives_first : Story → Option Item → Bool
arrives_first b (Some (process id)) =
    not (is_whole_block (carried_of b.carried id)) || not (carried_of b.carried id).shown
arrives_first b _ = true

-- In the connection of an abort there is nothing but messages.
abbrev pub leaves_talk : OpenedValue → Change → Option Item → Bool
leaves_talk k c (Some (abort j)) = not (is_command c.before) && not (is_status_phase c.after) && is_nil k.bytes
leaves_talk k c _ = true

-- With COMMAND, STATUS and the end of data its process must be known, and be open.
abbrev pub gets_known : OpenedValue → Change → Bool
gets_known k c = is_command c.after || is_status_phase c.after || not (is_nil k.bytes)

abbrev pub fits_turn : Story → OpenedValue → Link → Change → Bool
fits_turn b k l c =
    (not (is_message_in c.before && not (is_nil b.bus_state.dialogue.half)) || undoes_nothing b l l.undo)
    && (not (is_command c.before) || arrives_first b l.item)
    && leaves_talk k c l.item
    && (is_known k b.bus_state.bus || not (gets_known k c) || is_open_item b l.item)

-- ---- a row of no byte and no phase

abbrev pub has_status : Story → Option Item → Bool
has_status b (Some (process id)) = not (is_nil (carried_of b.carried id).status.bytes)
has_status b _ = false

-- COMMAND COMPLETE is taken for both, after STATUS.
abbrev pub fits_still : Story → OpenedValue → Link → Change → Bool
fits_still b k l c = (not (rises c.before.ack c.after.ack && is_message_in c.before && not c.after.atn)
    || same_bool (story_of.is_complete l.last) (is_complete k.held && is_nil b.bus_state.dialogue.half))
    && (not (story_of.is_completion l c) || (is_known k b.bus_state.bus && has_status b l.item))

-- ---- a connection ends with BUS FREE

abbrev pub is_departure : Departure → LastMessage → Bool
is_departure Loss plain = true
is_departure Leave complete = true
is_departure Leave disconnect = true
is_departure _ _ = false

abbrev pub is_abortion : Departure → LastMessage → Bool
is_abortion Abortion abortive = true
is_abortion _ _ = false

abbrev pub is_line : Connection → Summary → Option MsgOut → Option AbortDef → Bool
is_line n sum (Some m) (Some a) = n.initiator == a.host && n.target == a.target && same_number sum.unit (Some a.unit)
    && same_kind (kind_of m sum.tag) a.what
is_line n sum _ _ = false

abbrev pub closing_parts : OpenedValue → LineSet → List ℕ → List Part
closing_parts k bus half = (settled (phase_over k bus half false) false).parts

abbrev pub fits_end : ScenarioValue → Story → OpenedValue → Link → List Part → Option Item → Bool
fits_end s b k l parts None = false
fits_end s b k l parts (Some (process id)) =
    is_none (summary_by k.connection parts).abort && name_process s k.connection parts id
    && is_departure (summary_by k.connection parts).departure l.last && is_known k b.bus_state.bus
fits_end s b k l parts (Some (abort j)) = is_abortion (summary_by k.connection parts).departure l.last
    && is_line k.connection (summary_by k.connection parts) (summary_by k.connection parts).abort
    (abort_line_at s.aborts j) && are_talk parts

-- ---- a row

abbrev pub fits_on : ScenarioValue → Story → OpenedValue → Link → RowReading → Bool
fits_on s b k l d =
    if d.crosses then fits_crossing s b k l d
    else if changes_phase d.change then fits_turn b k l d.change else fits_still b k l d.change

abbrev pub fits_linked : ScenarioValue → Story → Option OpenedValue → Option Link → RowReading → Bool → Bool
fits_linked s b (Some k) (Some l) d stands =
    if stands then fits_on s b k l d
    else fits_end s b k l (closing_parts k d.change.before b.bus_state.dialogue.half) l.item
fits_linked s b _ _ d stands = true

-- It begins in neither COMMAND nor STATUS.
abbrev pub fits_first : ScenarioValue → Story → Option Connection → Change → Bool
fits_first s b None c = true
fits_first s b (Some n) c =
    (n.reselected || (is_fresh b (aim_of b.aims n.initiator) && is_alone s b (aim_of b.aims n.initiator)))
    && not (is_command c.after) && not (is_status_phase c.after)

abbrev pub fits_bus : ScenarioValue → TranscriberValue → Story → Option Connection → RowReading → Bool
fits_bus s t b (Some m) d = fits_linked s b t.opened b.link d (is_some d.next)
fits_bus s t b None d = fits_first s b d.next d.change

abbrev pub is_open_process : Sent → Item → Bool
is_open_process b (process id) = is_open_in b id
is_open_process b (abort j) = false

-- A reset ends all that is open.
abbrev pub ends_all : ScenarioValue → Story → Bool
ends_all s b =
    let after : Sent = (story_with_ends (λ c. true) (λ c. true) by_reset 1 s.commands b).sent in
    not (list_any (λ item. is_open_process after item) after.sent)

-- RST that ends a connection begins with the row.
abbrev pub fits_reading : ScenarioValue → TranscriberValue → Story → RowReading → Bool
fits_reading s t b d =
    if d.change.after.rst then is_none t.opened || (rises d.change.own.rst d.change.next.rst && ends_all s b)
    else fits_bus s t b b.bus_state.connection d

abbrev pub fits_row : ScenarioValue → TranscriberValue → Story → Row → Bool
fits_row s t b row = fits_reading s t b (row_reading b.bus_state row)

-- ---- all rows

-- The process of the connection has the name that its messages give, once it is known; and no abort came in it.
abbrev pub is_named : ScenarioValue → OpenedValue → Option Item → Bool
is_named s k (Some (process id)) = is_none (summary_by k.connection (parts_now k)).abort
    && (are_talk (parts_now k) || name_process s k.connection (parts_now k) id)
is_named s k _ = true

abbrev pub are_named : ScenarioValue → Option OpenedValue → Option Link → Bool
are_named s (Some k) (Some l) = is_named s k l.item
are_named s _ _ = true

abbrev pub fit : ScenarioValue → List Row → Bool
fit s [] = true
fit s (row ∷ rows) = fit s rows && fits_row s (transcribed rows) (story s rows) row
    && are_named s (transcribed (row ∷ rows)).opened (story s (row ∷ rows)).link

-- Of the rows of a run, the oldest first.
abbrev pub keep_fit : ScenarioValue → TranscriberValue → Story → List Row → Bool
keep_fit s t b [] = are_named s t.opened b.link
keep_fit s t b (row ∷ rows) =
    are_named s t.opened b.link && fits_row s t b row && keep_fit s (after_row t row) (story_after s b row) rows
