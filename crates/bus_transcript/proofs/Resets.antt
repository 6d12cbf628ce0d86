-- The resets of a transcript are those of the history that the same rows tell.
use Rattle.std.proofs.Common.{ℕ, ◌≡◌, ◌∙◌, Bool, true, false, List, [], ◌∷◌, ◌++◌, reverse, Option, Some, None, refl}
use Rattle.std.proofs.Common.{sym, ap}
use Rattle.std.specs.Prelude.{◌&&◌, not, is_some, is_none, slice_set, if◌then◌else◌}
use Rattle.std.specs.List.{list_any}
use Rattle.std.proofs.lemmas.List.{reverse-append, append-nil}
use Rattle.std.proofs.lemmas.Grind.{flat_map-append}
use Rattle.bus_base.specs.declared.ProcId.{ProcId}
use Rattle.bus_base.specs.declared.Event.{Event}
use Rattle.bus_base.specs.declared.Event.TheVariants as events
use Rattle.bus_trace.specs.LineSet.{LineSet}
use Rattle.bus_trace.specs.View.{driven_at, union_all}
use Rattle.bus_trace.specs.Trace.{driven_after}
use Rattle.bus_trace.specs.Changes.{rises, falls}
use Rattle.bus_trace.specs.Phases.{is_command, changes_phase}
use Rattle.bus_trace.specs.declared.rows.Kind.{Kind}
use Rattle.bus_trace.specs.declared.rows.Row.{Row}
use Rattle.bus_trace.specs.declared.changes.Change.{Change}
use Rattle.bus_trace.specs.declared.selection.Call.{Call}
use Rattle.bus_trace.specs.declared.selection.Calling.{Calling}
use Rattle.bus_trace.specs.declared.connection.Connection.{Connection}
use Rattle.msg_grammar.specs.declared.message.MsgIn.{MsgIn}
use Rattle.msg_grammar.specs.declared.message.MsgIn.TheVariants as to_initiator
use Rattle.msg_grammar.specs.declared.message.MsgOut.{MsgOut}
use Rattle.scenario.specs.declared.value.AbortDef.{AbortDef}
use Rattle.scenario.specs.Value.{ScenarioValue}
use Rattle.story_model.specs.BusState.{BusState, RowReading, change_by, row_reading}
use Rattle.story_model.specs.CarriedBytes.{CarriedBytes, is_whole_block, is_status_phase}
use Rattle.story_model.specs.Items as told
use Rattle.story_model.specs.Links.{Link, LastMessage, plain, complete, disconnect, abortive}
use Rattle.story_model.specs.Story.{Story}
use Rattle.story_model.specs.HistoryEvents.{carried_if, queue_event, queue_events, is_refuse, status_event}
use Rattle.story_model.specs.HistoryEvents.{status_events}
use Rattle.story_model.specs.HistoryEvents.{is_completion, end_events, item_loss_events, abort_line_at}
use Rattle.story_model.specs.HistoryEvents.{abort_line_events}
use Rattle.story_model.specs.HistoryEvents.{item_abort_events, bus_free_events, connection_events, link_events}
use Rattle.story_model.specs.HistoryEvents.{row_events_by}
use Rattle.story_model.specs.TraceHistory.{story, row_events, trace_history}
use Rattle.bus_transcript.specs.declared.item.Item.{Item}
use Rattle.bus_transcript.specs.declared.item.Item.TheVariants as items
use Rattle.bus_transcript.specs.declared.part.Part.{Part}
use Rattle.bus_transcript.specs.declared.part.Part.TheVariants as parts_of
use Rattle.bus_transcript.specs.declared.process.Process.{Process}
use Rattle.bus_transcript.specs.declared.summary.Departure.{Departure}
use Rattle.bus_transcript.specs.declared.summary.Departure.TheVariants.{Loss, Leave, Abortion}
use Rattle.bus_transcript.specs.declared.summary.Summary.{Summary}
use Rattle.bus_transcript.specs.Accounts.{AccountValue, account_of, with_item, with_block, with_cdb, is_whole, arrived}
use Rattle.bus_transcript.specs.Accounts.{after_in, account_after, account_after_all}
use Rattle.bus_transcript.specs.Opened.{OpenedValue}
use Rattle.bus_transcript.specs.Events.{reset_shown, reset_told, resets_shown, resets_told}
use Rattle.bus_transcript.specs.Rows.{TranscriberValue, with_items, abort_item, account_from, account_parts, departed}
use Rattle.bus_transcript.specs.Rows.{departed_if, closed_by, closed_if, reset_items, free_items, under_reset}
use Rattle.bus_transcript.specs.Rows.{unanswered_by, unanswered_items, in_connection, on_bus, by_change, transcribed}
use Rattle.bus_transcript.specs.Rows.{finished_if, transcript_of}

-- ---- items that are no resets

pub past : (list more : List Item) → resets_shown more ≡ [] → resets_shown (list ++ more) ≡ resets_shown list
past list more none = flat_map-append reset_shown list more ∙ ap (λ (xs : List ℕ). resets_shown list ++ xs) none
    ∙ append-nil (resets_shown list)

-- ---- the account of a connection shows none

item_past : (a : AccountValue) (item : Item) → reset_shown item ≡ []
    → resets_shown (with_item a item).items ≡ resets_shown a.items
item_past a item none = past a.items (item ∷ []) (ap (λ (xs : List ℕ). xs ++ []) none)

chosen : (q : Bool) (a b : AccountValue) (r : List ℕ) → resets_shown a.items ≡ r → resets_shown b.items ≡ r
    → resets_shown (if q then a else b).items ≡ r
chosen true a b r x y = x
chosen false a b r x y = y

cdb_past : (a : AccountValue) (bytes : List ℕ) → resets_shown (with_cdb a bytes).items ≡ resets_shown a.items
cdb_past a [] = refl
cdb_past a (b ∷ bytes) = item_past a (items.Cdb (b ∷ bytes)) refl

arrived_past : (a : AccountValue) (left : Bool) → resets_shown (arrived a left).items ≡ resets_shown a.items
arrived_past a left = chosen (left && is_whole a.block a.struck) (with_item a (items.Arrive a.process.name)) a
    (resets_shown a.items) (item_past a (items.Arrive a.process.name) refl) refl

in_past : (a : AccountValue) (m : MsgIn) → resets_shown (after_in a m).items ≡ resets_shown a.items
in_past a to_initiator.CommandComplete = refl
in_past a to_initiator.SavePointer = refl
in_past a to_initiator.RestorePointers = refl
in_past a to_initiator.Disconnect = refl
in_past a (to_initiator.Identify lun) = refl
in_past a (to_initiator.SimpleTag tag) = refl
in_past a (to_initiator.Sdtr offer) = refl
in_past a to_initiator.Reject = refl

part_past : (a : AccountValue) (part : Part) → resets_shown (account_after a part).items ≡ resets_shown a.items
part_past a (parts_of.Out m) = item_past a (items.Out m) refl
part_past a (parts_of.In m) = in_past (with_item a (items.In m)) m ∙ item_past a (items.In m) refl
part_past a parts_of.BrokenOff = refl
part_past a (parts_of.Command bytes struck left) =
    arrived_past (with_cdb (with_block a bytes struck) bytes) left ∙ cdb_past (with_block a bytes struck) bytes
part_past a (parts_of.Data out bytes) = item_past a (items.Payload out a.active bytes) refl
part_past a parts_of.StatusPhase = chosen a.process.shown a (record (with_item a (items.Ready a.process.name)) {
  process = record a.process { shown = true };
}) (resets_shown a.items) refl (item_past a (items.Ready a.process.name) refl)
part_past a (parts_of.Status byte) = item_past a (items.Status byte) refl
part_past a parts_of.Completion = item_past a (items.End a.process.name a.process.status) refl

parts_past : (a : AccountValue) (parts : List Part)
    → resets_shown (account_after_all a parts).items ≡ resets_shown a.items
parts_past a [] = refl
parts_past a (part ∷ parts) = parts_past (account_after a part) parts ∙ part_past a part

departed_past : (a : AccountValue) (d : Departure) (abort : Option MsgOut)
    → resets_shown (departed a d abort).items ≡ resets_shown a.items
departed_past a Loss abort = item_past a (items.Lost a.process.name) refl
departed_past a Leave abort = refl
departed_past a Abortion None = refl
departed_past a Abortion (Some m) = item_past a (abort_item a.process.name m) refl

account_past : (n : Connection) (p : Process) (parts : List Part) (list : List Item) (free : Bool) (s : Summary)
    → resets_shown (departed_if free (account_parts n p parts list) s).items ≡ resets_shown list
account_past n p parts list free s =
    let a = account_parts n p parts list in
    chosen free (departed a s.departure s.abort) a (resets_shown a.items) (departed_past a s.departure s.abort) refl
    ∙ parts_past (account_from n p list) parts
    ∙ item_past (account_of p list) (items.Connect n.began p.name n.reselected) refl

closed_past : (t : TranscriberValue) (n : Connection) (parts : List Part) (free : Bool) (s : Summary)
    → resets_shown (closed_by t n parts free s).items ≡ resets_shown t.items
unfolding closed_by
closed_past t n parts free s = account_past n _ parts t.items free s

pub closed_bus : (t : TranscriberValue) (n : Connection) (parts : List Part) (free : Bool) (s : Summary)
    → (closed_by t n parts free s).bus_state ≡ t.bus_state
unfolding closed_by
closed_bus t n parts free s = refl

if_past : (t : TranscriberValue) (k : Option OpenedValue) (d : RowReading) (free : Bool)
    → resets_shown (closed_if t k d free).items ≡ resets_shown t.items
if_past t None d free = refl
if_past t (Some k) d free = closed_past t _ _ free _

pub if_bus : (t : TranscriberValue) (k : Option OpenedValue) (d : RowReading) (free : Bool)
    → (closed_if t k d free).bus_state ≡ t.bus_state
if_bus t None d free = refl
if_bus t (Some k) d free = closed_bus t _ _ free _

-- ---- a row

-- the reset of a row
abbrev row_resets : Change → ℕ → List ℕ
row_resets c dev = if c.after.rst then resets_shown (reset_items c dev) else []

free_none : (before after : Option Connection) (time : ℕ) → resets_shown (free_items before after time) ≡ []
free_none None after time = refl
free_none (Some n) None time = refl
free_none (Some n) (Some m) time = refl

listed : (q : Bool) (list : List Item) → resets_shown list ≡ [] → resets_shown (if q then list else []) ≡ []
listed true list none = none
listed false list none = refl

unanswered_none : (caller : ℕ) (calling : Option Calling) (time : ℕ)
    → resets_shown (unanswered_by caller calling time) ≡ []
unanswered_none caller None time = refl
unanswered_none caller (Some k) time = listed (is_none k.answered) (items.Unanswered time caller k.called ∷ []) refl

call_none : (call : Option Call) (time : ℕ) → resets_shown (unanswered_items call time) ≡ []
call_none None time = refl
call_none (Some k) time = unanswered_none k.caller k.calling time

free_bus_past : (q : Bool) (t : TranscriberValue) (time : ℕ)
    → resets_shown (if q then with_items t (unanswered_items t.bus_state.call time) else t).items ≡ resets_shown t.items
free_bus_past true t time = past t.items (unanswered_items t.bus_state.call time) (call_none t.bus_state.call time)
free_bus_past false t time = refl

pub free_bus_bus : (q : Bool) (t : TranscriberValue) (time : ℕ)
    → (if q then with_items t (unanswered_items t.bus_state.call time) else t).bus_state ≡ t.bus_state
free_bus_bus true t time = refl
free_bus_bus false t time = refl

in_connection_past : (t : TranscriberValue) (k : Option OpenedValue) (d : RowReading) (kind : Kind)
    → resets_shown (in_connection t k d kind).items ≡ resets_shown t.items
in_connection_past t None d kind = refl
in_connection_past t (Some k) d kind = refl

pub in_connection_bus : (t : TranscriberValue) (k : Option OpenedValue) (d : RowReading) (kind : Kind)
    → (in_connection t k d kind).bus_state ≡ t.bus_state
in_connection_bus t None d kind = refl
in_connection_bus t (Some k) d kind = refl

on_bus_past : (t : TranscriberValue) (before after : Option Connection) (d : RowReading) (row : Row)
    → resets_shown (on_bus t before after d row).items ≡ resets_shown t.items
on_bus_past t None None d row = free_bus_past (falls d.change.before.sel d.change.after.sel) t row.time
on_bus_past t None (Some n) d row = refl
on_bus_past t (Some m) None d row =
    past (closed_if t t.opened d true).items (items.Free row.time ∷ []) refl ∙ if_past t t.opened d true
on_bus_past t (Some m) (Some n) d row = in_connection_past t t.opened d row.kind

pub on_bus_bus : (t : TranscriberValue) (before after : Option Connection) (d : RowReading) (row : Row)
    → (on_bus t before after d row).bus_state ≡ t.bus_state
on_bus_bus t None None d row = free_bus_bus (falls d.change.before.sel d.change.after.sel) t row.time
on_bus_bus t None (Some n) d row = refl
on_bus_bus t (Some m) None d row = if_bus t t.opened d true
on_bus_bus t (Some m) (Some n) d row = in_connection_bus t t.opened d row.kind

under_reset_shows : (t : TranscriberValue) (d : RowReading) (row : Row)
    → resets_shown (under_reset t d row).items ≡ resets_shown t.items ++ resets_shown (reset_items d.change row.dev)
under_reset_shows t d row =
    let closed = closed_if t t.opened d false in
    let reset = reset_items d.change row.dev in
    past (closed.items ++ reset) (free_items t.bus_state.connection d.next row.time)
    (free_none t.bus_state.connection d.next row.time) ∙ flat_map-append reset_shown closed.items reset
    ∙ ap (λ (xs : List ℕ). xs ++ resets_shown reset) (if_past t t.opened d false)

shows_by : (q : Bool) (t : TranscriberValue) (d : RowReading) (row : Row)
    → resets_shown (if q then under_reset t d row else on_bus t t.bus_state.connection d.next d row).items
    ≡ resets_shown t.items ++ (if q then resets_shown (reset_items d.change row.dev) else [])
shows_by true t d row = under_reset_shows t d row
shows_by false t d row = on_bus_past t t.bus_state.connection d.next d row ∙ sym (append-nil (resets_shown t.items))

row_shows : (t : TranscriberValue) (d : RowReading) (row : Row)
    → resets_shown (by_change t d row).items ≡ resets_shown t.items ++ row_resets d.change row.dev
unfolding by_change
row_shows t d row = shows_by d.change.after.rst t d row

pub bus_by : (q : Bool) (t : TranscriberValue) (d : RowReading) (row : Row)
    → (if q then under_reset t d row else on_bus t t.bus_state.connection d.next d row).bus_state ≡ t.bus_state
bus_by true t d row = if_bus t t.opened d false
bus_by false t d row = on_bus_bus t t.bus_state.connection d.next d row

pub row_bus : (t : TranscriberValue) (d : RowReading) (row : Row) → (by_change t d row).bus_state ≡ t.bus_state
unfolding by_change
row_bus t d row = bus_by d.change.after.rst t d row

-- ---- the history of a row

abbrev IsQuiet : List Event → Type 0
IsQuiet history = resets_told (reverse history) ≡ []

quiet_if : (q : Bool) (xs ys : List Event) → IsQuiet xs → IsQuiet ys → IsQuiet (if q then xs else ys)
quiet_if true xs ys x y = x
quiet_if false xs ys x y = y

more_quiet : (event : Event) (xs : List Event) → reset_told event ≡ [] → IsQuiet xs → IsQuiet (event ∷ xs)
more_quiet event xs none quiet = ap resets_told (reverse-append (event ∷ []) xs)
    ∙ flat_map-append reset_told (reverse xs) (event ∷ []) ∙ (λ i. quiet i ++ (none i ++ []))

taken_quiet : (q : Bool) (id : ProcId) → IsQuiet ((if q then events.Accept id else events.Refuse id) ∷ [])
taken_quiet true id = refl
taken_quiet false id = refl

queue_quiet : (s : ScenarioValue) (b : Story) (k : Option CarriedBytes) (before : LineSet)
    → IsQuiet (queue_events s b k before)
queue_quiet s b None before = refl
queue_quiet s b (Some k) before =
    quiet_if (is_command before && is_whole_block k) (queue_event s b.history k.id ∷ []) [] (taken_quiet _ k.id) refl

status_none : (id : ProcId) (failure : Option ℕ) → reset_told (status_event id failure) ≡ []
status_none id None = refl
status_none id (Some code) = refl

status_quiet : (k : Option CarriedBytes) (after : LineSet) (arrived : List Event) → IsQuiet arrived
    → IsQuiet (status_events k after arrived)
status_quiet None after arrived quiet = quiet
status_quiet (Some k) after arrived quiet = quiet_if (is_status_phase after && not k.shown && not k.refused
    && not (list_any (λ e. is_refuse e) arrived)) (status_event k.id k.failure ∷ arrived) arrived
    (more_quiet (status_event k.id k.failure) arrived (status_none k.id k.failure) quiet) quiet

end_quiet : (k : Option CarriedBytes) → IsQuiet (end_events k)
end_quiet None = refl
end_quiet (Some k) = refl

connection_quiet : (s : ScenarioValue) (b : Story) (l : Link) (d : RowReading) → IsQuiet (connection_events s b l d)
connection_quiet s b l d =
    let k = carried_if b l.item in
    quiet_if (changes_phase d.change) (status_events k d.change.after (queue_events s b k d.change.before))
    (if is_completion l d.change then end_events k else [])
    (status_quiet k d.change.after (queue_events s b k d.change.before) (queue_quiet s b k d.change.before))
    (quiet_if (is_completion l d.change) (end_events k) [] (end_quiet k) refl)

loss_quiet : (item : Option told.Item) → IsQuiet (item_loss_events item)
loss_quiet None = refl
loss_quiet (Some (told.process id)) = refl
loss_quiet (Some (told.abort n)) = refl

line_quiet : (line : Option AbortDef) → IsQuiet (abort_line_events line)
line_quiet None = refl
line_quiet (Some a) = refl

abort_quiet : (s : ScenarioValue) (item : Option told.Item) → IsQuiet (item_abort_events s item)
abort_quiet s None = refl
abort_quiet s (Some (told.process id)) = refl
abort_quiet s (Some (told.abort n)) = line_quiet (abort_line_at s.aborts n)

free_quiet : (s : ScenarioValue) (l : Link) (last : LastMessage) → IsQuiet (bus_free_events s l last)
free_quiet s l plain = loss_quiet l.item
free_quiet s l complete = refl
free_quiet s l disconnect = refl
free_quiet s l abortive = abort_quiet s l.item

link_quiet : (s : ScenarioValue) (b : Story) (l : Option Link) (d : RowReading) → IsQuiet (link_events s b l d)
link_quiet s b None d = refl
link_quiet s b (Some l) d = quiet_if (is_some d.next) (connection_events s b l d) (bus_free_events s l l.last)
    (connection_quiet s b l d) (free_quiet s l l.last)

tells_by : (q r : Bool) (s : ScenarioValue) (b : Story) (d : RowReading) (row : Row)
    → resets_told (reverse (if q then (if r then events.Reset row.dev ∷ [] else []) else link_events s b b.link d))
    ≡ (if q then resets_shown (if r then items.Reset row.dev ∷ [] else []) else [])
tells_by true true s b d row = refl
tells_by true false s b d row = refl
tells_by false r s b d row = link_quiet s b b.link d

row_tells : (s : ScenarioValue) (b : Story) (d : RowReading) (row : Row)
    → resets_told (reverse (row_events_by s b d row)) ≡ row_resets d.change row.dev
row_tells s b d row = tells_by d.change.after.rst (rises d.change.own.rst d.change.next.rst) s b d row

-- ---- the bus of both

pub record IsAlike (w v : BusState) : Type 0 where
  pub driven : w.driven ≡ v.driven
  pub bus : w.bus ≡ v.bus

pub change_same : (w v : BusState) (row : Row) → IsAlike w v → change_by w row ≡ change_by v row
change_same w v row h = λ i. record {
  before = h.bus i;
  after = union_all (slice_set (h.driven i) row.dev (driven_after row.kind (driven_at (h.driven i) row.dev)));
  own = driven_at (h.driven i) row.dev;
  next = driven_after row.kind (driven_at (h.driven i) row.dev);
}

buses_alike : (s : ScenarioValue) (rows : List Row) → IsAlike (transcribed rows).bus_state (story s rows).bus_state
buses_alike s [] = record { driven = refl; bus = refl }
buses_alike s (row ∷ rows) =
    let t = transcribed rows in
    let h = buses_alike s rows in
    let c = change_same t.bus_state (story s rows).bus_state row h in
    let kept = row_bus t (row_reading t.bus_state row) row in
    record {
      driven = (λ i. slice_set (kept i).driven row.dev (change_by t.bus_state row).next)
          ∙ (λ i. slice_set (h.driven i) row.dev (c i).next);
      bus = λ i. (c i).after;
    }

-- ---- a trace

seen_alike : (s : ScenarioValue) (rows : List Row)
    → resets_shown (transcribed rows).items ≡ resets_told (reverse (trace_history s rows))
seen_alike s [] = refl
seen_alike s (row ∷ rows) =
    let t = transcribed rows in
    let b = story s rows in
    let c = change_same t.bus_state b.bus_state row (buses_alike s rows) in
    let shown = row_events s b row in
    row_shows t (row_reading t.bus_state row) row ∙ (λ i. seen_alike s rows i ++ row_resets (c i) row.dev) ∙ ap
    (λ (xs : List ℕ). resets_told (reverse b.history) ++ xs) (sym (row_tells s b (row_reading b.bus_state row) row))
    ∙ sym (flat_map-append reset_told (reverse b.history) (reverse shown))
    ∙ ap resets_told (sym (reverse-append shown b.history))

last_past : (t : TranscriberValue) (k : Option OpenedValue)
    → resets_shown (finished_if t k).items ≡ resets_shown t.items
last_past t None = refl
last_past t (Some k) = closed_past t _ _ false _

pub resets_alike : (s : ScenarioValue) (rows : List Row)
    → resets_shown (transcript_of rows) ≡ resets_told (reverse (trace_history s rows))
resets_alike s rows = last_past (transcribed rows) (transcribed rows).opened ∙ seen_alike s rows
