-- The transcript of a trace: what its rows show and carry, row by row, with the processes named. Each row tells by the
-- rows before it; nothing is asked of a device or a scenario.
use Rattle.std.specs.Prelude.{ℕ, Bool, true, false, List, [], ◌∷◌, ◌++◌, Option, Some, None, is_some, is_none}
use Rattle.std.specs.Prelude.{if◌then◌else◌, not, ◌&&◌}
use Rattle.bus_trace.specs.declared.rows.Kind.{Kind}
use Rattle.bus_trace.specs.declared.rows.Row.{Row}
use Rattle.bus_trace.specs.declared.changes.Change.{Change}
use Rattle.bus_trace.specs.declared.selection.Call.{Call}
use Rattle.bus_trace.specs.declared.selection.Calling.{Calling}
use Rattle.bus_trace.specs.declared.connection.Connection.{Connection}
use Rattle.bus_trace.specs.Changes.{rises, falls}
use Rattle.msg_grammar.specs.declared.message.MsgOut.{MsgOut}
use Rattle.bus_trace.specs.Phases.{changes_phase}
use Rattle.bus_trace.specs.Terms.{receiver_of}
use Rattle.bus_phases.specs.declared.dialogue.Dialogue.{Dialogue}
use Rattle.bus_phases.specs.Dialogue.{dialogue_after}
use Rattle.story_model.specs.PairAgreements.{agreement_in}
use Rattle.story_model.specs.BusState.{BusState, RowReading, quiet_bus, row_reading, bus_state_after}
use Rattle.bus_transcript.specs.declared.item.Name.{Name}
use Rattle.bus_transcript.specs.declared.item.Item.{Item}
use Rattle.bus_transcript.specs.declared.item.Item.TheVariants.{Connect, Unanswered, Lost, Abort, Reset, Free}
use Rattle.bus_transcript.specs.declared.part.Part.{Part}
use Rattle.bus_transcript.specs.declared.process.Process.{Process}
use Rattle.bus_transcript.specs.declared.summary.Departure.{Departure}
use Rattle.bus_transcript.specs.declared.summary.Departure.TheVariants.{Loss, Leave, Abortion}
use Rattle.bus_transcript.specs.declared.summary.Summary.{Summary}
use Rattle.bus_transcript.specs.Nexus.{no_summary, summary_of, kind_of}
use Rattle.bus_transcript.specs.Opened.{OpenedValue, opened_connection, settled, spoken, phase_over, with_row}
use Rattle.bus_transcript.specs.Keys.{Key}
use Rattle.bus_transcript.specs.Processes.{process_of, process_after, with_process}
use Rattle.bus_transcript.specs.Accounts.{AccountValue, account_of, with_item, account_after_all}

pub record TranscriberValue : Type 0 where
  pub bus_state : BusState
  -- the connection that stands, until RST rises in it
  pub opened : Option OpenedValue
  -- the last process of each nexus
  pub processes : List (Key × Process)
  -- the items but for those of that connection, the oldest first
  pub items : List Item

-- Agreements are not looked at.
abbrev pub nothing_seen : TranscriberValue
nothing_seen = record { bus_state = quiet_bus; opened = None; processes = []; items = [] }

abbrev pub with_items : TranscriberValue → List Item → TranscriberValue
with_items t more = record t { items = t.items ++ more }

-- ---- the end of a connection

abbrev pub name_of : Connection → Summary → Name
name_of n s = record { initiator = n.initiator; target = n.target; unit = s.unit; tag = s.tag; number = 0 }

abbrev pub account_from : Connection → Process → List Item → AccountValue
account_from n p items = with_item (account_of p items) (Connect n.began p.name n.reselected)

abbrev pub account_parts : Connection → Process → List Part → List Item → AccountValue
account_parts n p parts items = account_after_all (account_from n p items) parts

abbrev pub abort_item : Name → MsgOut → Item
abort_item name m = Abort name.initiator name.target name.unit (kind_of m name.tag)

-- What BUS FREE shows of the process.
abbrev pub departed : AccountValue → Departure → Option MsgOut → AccountValue
departed a Loss abort = with_item a (Lost a.process.name)
departed a Leave abort = a
departed a Abortion None = a
departed a Abortion (Some m) = with_item a (abort_item a.process.name m)

abbrev pub departed_if : Bool → AccountValue → Summary → AccountValue
departed_if free a s = if free then departed a s.departure s.abort else a

abbrev pub with_account : TranscriberValue → Bool → Bool → AccountValue → TranscriberValue
with_account t again aborts a =
    record t { opened = None; processes = with_process again aborts t.processes a.process; items = a.items }

-- Proofs open it by name, since it is long.
unfoldable pub closed_by : TranscriberValue → Connection → List Part → Bool → Summary → TranscriberValue
closed_by t n parts free s = with_account t n.reselected (is_some s.abort) (departed_if free (account_parts n
    (process_after n.reselected (is_some s.abort) (process_of t.processes (name_of n s)) (name_of n s)) parts t.items)
    s)

-- A connection with these parts is over; it may have ended with BUS FREE.
abbrev pub closed_parts : TranscriberValue → Connection → List Part → Bool → TranscriberValue
closed_parts t n parts free = closed_by t n parts free (summary_of n.reselected no_summary parts)

abbrev pub closed_with : TranscriberValue → OpenedValue → Bool → TranscriberValue
closed_with t k free = closed_parts t k.connection k.parts free

abbrev pub closed_phase : TranscriberValue → OpenedValue → RowReading → Bool → TranscriberValue
closed_phase t k d free =
    closed_with t (settled (phase_over k d.change.before t.bus_state.dialogue.half false) false) free

abbrev pub closed_if : TranscriberValue → Option OpenedValue → RowReading → Bool → TranscriberValue
closed_if t None d free = t
closed_if t (Some k) d free = closed_phase t k d free

-- ---- a row

abbrev pub reset_items : Change → ℕ → List Item
reset_items c dev = if rises c.own.rst c.next.rst then Reset dev ∷ [] else []

abbrev pub free_items : Option Connection → Option Connection → ℕ → List Item
free_items None after time = []
free_items (Some n) None time = Free time ∷ []
free_items (Some n) (Some m) time = []

-- RST is true after the row: it ends what the connection shows.
abbrev pub under_reset : TranscriberValue → RowReading → Row → TranscriberValue
under_reset t d row = with_items (with_items (closed_if t t.opened d false) (reset_items d.change row.dev))
    (free_items t.bus_state.connection d.next row.time)

-- The caller has released all lines, and no answer had come.
abbrev pub unanswered_by : ℕ → Option Calling → ℕ → List Item
unanswered_by caller None time = []
unanswered_by caller (Some k) time = if is_none k.answered then Unanswered time caller k.called ∷ [] else []

abbrev pub unanswered_items : Option Call → ℕ → List Item
unanswered_items None time = []
unanswered_items (Some k) time = unanswered_by k.caller k.calling time

abbrev pub on_free_bus : TranscriberValue → Change → ℕ → TranscriberValue
on_free_bus t c time =
    if falls c.before.sel c.after.sel then with_items t (unanswered_items t.bus_state.call time) else t

abbrev pub in_connection : TranscriberValue → Option OpenedValue → RowReading → Kind → TranscriberValue
in_connection t None d kind = t
in_connection t (Some k) d kind = record t { opened = Some (with_row k t.bus_state d kind) }

abbrev pub on_bus : TranscriberValue → Option Connection → Option Connection → RowReading → Row → TranscriberValue
on_bus t None None d row = on_free_bus t d.change row.time
on_bus t None (Some n) d row = record t { opened = Some (opened_connection n) }
on_bus t (Some m) None d row = with_items (closed_if t t.opened d true) (Free row.time ∷ [])
on_bus t (Some m) (Some n) d row = in_connection t t.opened d row.kind

-- Proofs open it by name, too.
unfoldable pub by_change : TranscriberValue → RowReading → Row → TranscriberValue
by_change t d row = if d.change.after.rst then under_reset t d row else on_bus t t.bus_state.connection d.next d row

-- What its messages say. A row in which no byte crosses and no phase begins, while the connection stands, changes
-- nothing.
abbrev pub dialogue_seen : BusState → RowReading → Dialogue
dialogue_seen w d = dialogue_after w.dialogue w.connection d.next (λ i t. agreement_in w.agreed i t) d.change

abbrev pub is_silent : Option Connection → Option Connection → Change → Bool
is_silent None after c = false
is_silent (Some m) None c = false
is_silent (Some m) (Some n) c = is_none (receiver_of (Some m) c) && not (changes_phase c)

-- The bus after a row, but for the agreements, at which nothing here looks.
abbrev pub bus_seen : BusState → Row → RowReading → BusState
bus_seen w row d = record (bus_state_after w row d) { agreed = [] }

abbrev pub with_bus : TranscriberValue → Row → RowReading → TranscriberValue
with_bus t row d = record t { bus_state = bus_seen t.bus_state row d }

abbrev pub after_reading : TranscriberValue → Row → RowReading → TranscriberValue
after_reading t row d = with_bus (by_change t d row) row d

abbrev pub after_row : TranscriberValue → Row → TranscriberValue
after_row t row = after_reading t row (row_reading t.bus_state row)

-- ---- a trace, its newest row first

abbrev pub transcribed : List Row → TranscriberValue
transcribed [] = nothing_seen
transcribed (row ∷ rows) = after_row (transcribed rows) row

-- A connection that still stands at the end shows what it has carried so far.
abbrev pub finished_if : TranscriberValue → Option OpenedValue → TranscriberValue
finished_if t None = t
finished_if t (Some k) = closed_with t (settled (spoken k) false) false

abbrev pub finished : TranscriberValue → List Item
finished t = (finished_if t t.opened).items

abbrev pub transcript_of : List Row → List Item
transcript_of rows = finished (transcribed rows)
