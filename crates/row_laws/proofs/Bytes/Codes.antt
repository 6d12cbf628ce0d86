-- The code of each failure that the rows show is a byte: the target's or the initiator's code of wrong parity.
use Rattle.row_laws.proofs
use proofs.Names.{ℕ, ◌<◌, ◌+◌, ◌%◌, Bool, true, false, not, ◌&&◌, List, [], ◌∷◌, ◌++◌, Option, Some, None, arith, ◌==◌}
use proofs.Names.{AllByRecursion, list_any, if◌then◌else◌, is_some, is_none, Event, ProcId, rises, falls, LineSet}
use proofs.Names.{changes_phase, is_command, is_data, Kind, Drives, Fault, Row, Change, Connection, Call, Calling}
use proofs.Names.{PARITY_ERROR, INITIATOR_DETECTED_ERROR, CHECK_CONDITION, MsgIn, MsgOut, ScenarioValue, AbortDef}
use proofs.Names.{CmdDef, array_after, same_id, RowReading, row_reading, CarriedBytes, with_restored_pointers}
use proofs.Names.{carried_after_message, carried_after_byte, carried_after_fault, is_status_phase, carried_at}
use proofs.Names.{with_carried, carried_or_nothing, carried_of, is_whole_block, carried_if, queue_event, queue_events}
use proofs.Names.{status_event, status_events, phase_events, is_completion, end_events, item_loss_events, abort_line_at}
use proofs.Names.{abort_line_events, item_abort_events, bus_free_events, link_events, row_events_by, is_refuse, Item}
use proofs.Names.{process, abort, sense_item, is_open, count_item, Link, LastMessage, plain, complete, disconnect}
use proofs.Names.{abortive, link_of, link_after_name, last_out, last_in, Story, aim_of, story_after}
use proofs.Bytes.Arrays.{HasByteCode}
use Rattle.due_model.specs.story_model.specs.Story as Told
use Rattle.due_model.specs.story_model.specs.TraceHistory as Rows

abbrev CodeIf : Option ℕ → Type 0
CodeIf None = Unit {0}
CodeIf (Some c) = c < 256

abbrev HasCode : CarriedBytes → Type 0
HasCode c = CodeIf c.failure

abbrev HasCodeIf : Option CarriedBytes → Type 0
HasCodeIf None = Unit {0}
HasCodeIf (Some c) = HasCode c

abbrev LinkHas : Option Link → Type 0
LinkHas None = Unit {0}
LinkHas (Some l) = HasCodeIf l.undo

pub record HasCodes (b : Story) : Type 0 where
  pub carried : AllByRecursion HasCode b.carried
  pub undo : LinkHas b.link

-- ---- the processes

at : (all : List CarriedBytes) (id : ProcId) → AllByRecursion HasCode all → HasCodeIf (carried_at all id)
at [] id a = tt
at (c ∷ all) id a = one (same_id c.id id) (at all id a.1)
  where
    one : (q : Bool) → HasCodeIf (carried_at all id) → HasCodeIf (if q then Some c else carried_at all id)
    one true z = a.0
    one false z = z

found : (all : List CarriedBytes) (id : ProcId) → AllByRecursion HasCode all → HasCode (carried_of all id)
found all id a = go (carried_at all id) (at all id a)
  where
    go : (o : Option CarriedBytes) → HasCodeIf o → HasCode (carried_or_nothing o id)
    go None z = tt
    go (Some c) z = z

put : (all : List CarriedBytes) (c : CarriedBytes) → AllByRecursion HasCode all → HasCode c
    → AllByRecursion HasCode (with_carried all c)
put [] c a b = (b, tt)
put (l ∷ all) c a b = go (same_id l.id c.id) (put all c a.1 b)
  where
    go : (q : Bool) → AllByRecursion HasCode (with_carried all c)
        → AllByRecursion HasCode (if q then c ∷ all else l ∷ with_carried all c)
    go true z = (b, a.1)
    go false z = (a.0, z)

of_item : (b : Story) (o : Option Item) → HasCodes b → HasCodeIf (carried_if b o)
of_item b None h = tt
of_item b (Some (process id)) h = found b.carried id h.carried
of_item b (Some (abort n)) h = tt

-- ---- the events that a row shows

of_queue : (s : ScenarioValue) (b : Story) (o : Option CarriedBytes) (before : LineSet)
    → AllByRecursion HasByteCode (queue_events s b o before)
of_queue s b None before = tt
of_queue s b (Some c) before = go (is_command before && is_whole_block c)
  where
    one : (q : Bool) → HasByteCode (if q then Event.Accept c.id else Event.Refuse c.id)
    one true = tt
    one false = tt

    go : (q : Bool) → AllByRecursion HasByteCode (if q then queue_event s b.history c.id ∷ [] else [])
    go true = (one (is_some (array_after s (Event.Accept c.id ∷ b.history))), tt)
    go false = tt

of_status : (o : Option CarriedBytes) (after : LineSet) (arrived : List Event) → HasCodeIf o
    → AllByRecursion HasByteCode arrived → AllByRecursion HasByteCode (status_events o after arrived)
of_status None after arrived h a = a
of_status (Some y) after arrived h a =
    go (is_status_phase after && not y.shown && not y.refused && not (list_any (λ e. is_refuse e) arrived))
  where
    one : (x : Option ℕ) → CodeIf x → HasByteCode (status_event y.id x)
    one None z = tt
    one (Some c) z = z

    go : (q : Bool) → AllByRecursion HasByteCode (if q then status_event y.id y.failure ∷ arrived else arrived)
    go true = (one y.failure h, a)
    go false = a

of_end : (o : Option CarriedBytes) → AllByRecursion HasByteCode (end_events o)
of_end None = tt
of_end (Some c) = (tt, tt)

of_abort : (o : Option AbortDef) → AllByRecursion HasByteCode (abort_line_events o)
of_abort None = tt
of_abort (Some a) = (tt, tt)

of_aborts : (s : ScenarioValue) (o : Option Item) → AllByRecursion HasByteCode (item_abort_events s o)
of_aborts s None = tt
of_aborts s (Some (process id)) = tt
of_aborts s (Some (abort n)) = of_abort (abort_line_at s.aborts n)

of_loss : (o : Option Item) → AllByRecursion HasByteCode (item_loss_events o)
of_loss None = tt
of_loss (Some (process id)) = (tt, tt)
of_loss (Some (abort n)) = tt

of_free : (s : ScenarioValue) (l : Link) (m : LastMessage) → AllByRecursion HasByteCode (bus_free_events s l m)
of_free s l plain = of_loss l.item
of_free s l complete = tt
of_free s l disconnect = tt
of_free s l abortive = of_aborts s l.item

of_link : (s : ScenarioValue) (b : Story) (o : Option Link) (d : RowReading) → HasCodes b
    → AllByRecursion HasByteCode (link_events s b o d)
of_link s b None d h = tt
of_link s b (Some l) d h = go (is_some d.next) (changes_phase d.change) (is_completion l d.change)
  where
    x : Option CarriedBytes
    x = carried_if b l.item

    go : (q r t : Bool) → AllByRecursion HasByteCode
        (if q then (if r then phase_events s b x d.change else if t then end_events x else [])
        else bus_free_events s l l.last)
    go true true t = of_status x d.change.after (queue_events s b x d.change.before) (of_item b l.item h)
        (of_queue s b x d.change.before)
    go true false true = of_end x
    go true false false = tt
    go false r t = of_free s l l.last

pub row_codes : (s : ScenarioValue) (b : Story) (d : RowReading) (row : Row) → HasCodes b
    → AllByRecursion HasByteCode (row_events_by s b d row)
row_codes s b d row h = go d.change.after.rst (rises d.change.own.rst d.change.next.rst)
  where
    go : (q r : Bool) → AllByRecursion HasByteCode
        (if q then (if r then Event.Reset row.dev ∷ [] else []) else link_events s b b.link d)
    go true true = (tt, tt)
    go true false = tt
    go false r = of_link s b b.link d h

-- ---- what an event does

keeps_ends : (drops stops : CmdDef → Bool) (e : Told.Ending) (m : ℕ) (commands : List CmdDef) (b : Story) → HasCodes b
    → HasCodes (Told.story_with_ends drops stops e m commands b)
keeps_ends drops stops e m [] b h = h
keeps_ends drops stops e m (c ∷ commands) b h =
    keeps_ends drops stops e (m + 1) commands
    (if is_open b.sent m && drops c then Told.story_with_end b (record { command = m; sense = false }) e
    else if stops c && list_any (λ k. k == m) b.sent.checks then Told.story_with_over b (sense_item m)
    else b)
    (go (is_open b.sent m && drops c) (stops c && list_any (λ k. k == m) b.sent.checks))
  where
    go : (q r : Bool) → HasCodes (if q then Told.story_with_end b (record { command = m; sense = false }) e
        else if r then Told.story_with_over b (sense_item m) else b)
    go true r = record { carried = h.carried; undo = h.undo }
    go false true = record { carried = h.carried; undo = h.undo }
    go false false = h

after_event : (s : ScenarioValue) (b : Story) (event : Event) → HasCodes b → HasCodes (Told.story_after_event s b event)
after_event s b (Event.Accept id) h = h
after_event s b (Event.Refuse id) h = record {
  carried = put b.carried (Told.marked_refused (carried_of b.carried id)) h.carried (found b.carried id h.carried);
  undo = h.undo;
}
after_event s b (Event.Run id) h = record {
  carried = put b.carried (Told.marked_shown (carried_of b.carried id)) h.carried (found b.carried id h.carried);
  undo = h.undo;
}
after_event s b (Event.Fail id code) h = record {
  carried = put b.carried (Told.marked_shown (carried_of b.carried id)) h.carried (found b.carried id h.carried);
  undo = h.undo;
}
after_event s b (Event.End id status) h = go (not id.sense && status == CHECK_CONDITION)
  where
    c : Story
    c = Told.story_with_end b id (Told.by_status status)

    go : (q : Bool)
        → HasCodes (if q then record c { sent = record c.sent { checks = c.sent.checks ++ id.command ∷ [] } } else c)
    go true = record { carried = h.carried; undo = h.undo }
    go false = record { carried = h.carried; undo = h.undo }
after_event s b (Event.Lost id) h = record { carried = h.carried; undo = h.undo }
after_event s b (Event.Aborted i t n what) h =
    keeps_ends (Told.is_aborted i t n what) (Told.is_sense_stopped i t n what) Told.by_abort 1 s.commands b h
after_event s b (Event.Reset dev) h = keeps_ends (λ c. true) (λ c. true) Told.by_reset 1 s.commands b h

after_events : (s : ScenarioValue) (b : Story) (shown : List Event) → HasCodes b
    → HasCodes (Told.story_after_events s b shown)
after_events s b [] h = h
after_events s b (event ∷ shown) h = after_event s (Told.story_after_events s b shown) event (after_events s b shown h)

-- ---- a row: outside a connection

tries : (s : ScenarioValue) (b : Story) (dev : ℕ) (o : Option Item) → HasCodes b
    → HasCodes (Rows.story_with_try s b dev o)
tries s b dev None h = h
tries s b dev (Some item) h =
    let next : Story = record b { sent = record b.sent { tries = item ∷ b.sent.tries } } in
    go next (record { carried = h.carried; undo = h.undo }) (Rows.is_counted item
    && Rattle.std.specs.Prelude.nat_lt (Rows.retries_of s.hosts dev) (count_item next.sent.tries item)) item
  where
    over : (c : Story) → HasCodes c → (i : Item) → HasCodes (Rows.story_without_answer c i)
    over c e (process id) = record { carried = e.carried; undo = e.undo }
    over c e (abort n) = record { carried = e.carried; undo = e.undo }

    go : (c : Story) → HasCodes c → (q : Bool) (i : Item) → HasCodes (if q then Rows.story_without_answer c i else c)
    go c e true i = over c e i
    go c e false i = e

callings : (s : ScenarioValue) (b : Story) (dev : ℕ) (o : Option Calling) → HasCodes b
    → HasCodes (Rows.story_after_calling_by s b dev o)
callings s b dev None h = h
callings s b dev (Some c) h = go (is_none c.answered && not c.reselects)
  where
    go : (q : Bool) → HasCodes (if q then Rows.story_with_try s b dev (aim_of b.aims dev) else b)
    go true = tries s b dev (aim_of b.aims dev) h
    go false = h

calls : (s : ScenarioValue) (b : Story) (o : Option Call) → HasCodes b → HasCodes (Rows.story_after_calling s b o)
calls s b None h = h
calls s b (Some c) h = callings s b c.caller c.calling h

on_free : (s : ScenarioValue) (b : Story) (d : RowReading) (row : Row) → HasCodes b
    → HasCodes (Rows.story_on_free_bus s b d row)
on_free s b d row h = go (Rows.is_arbitration_entry b d) (falls d.change.before.sel d.change.after.sel)
  where
    go : (q r : Bool) → HasCodes
        (if q then Rows.story_with_aim s b row else if r then Rows.story_after_calling s b b.bus_state.call else b)
    go true r = record { carried = h.carried; undo = h.undo }
    go false true = calls s b b.bus_state.call h
    go false false = h

-- ---- a connection begins

restored : (b : Story) (o : Option Item) → HasCodes b → HasCodes (Rows.story_with_restored b o)
restored b None h = h
restored b (Some (process id)) h = record {
  carried = put b.carried (with_restored_pointers (carried_of b.carried id)) h.carried (found b.carried id h.carried);
  undo = h.undo;
}
restored b (Some (abort n)) h = h

sent_on : (b : Story) (o : Option Item) → HasCodes b → HasCodes (Rows.story_with_sent b o)
sent_on b None h = h
sent_on b (Some i) h = record { carried = h.carried; undo = h.undo }

connects : (b : Story) (n : Connection) → HasCodes b → HasCodes (Rows.story_after_connection b n)
connects b n h = go n.reselected
  where
    i : Option Item
    i = aim_of b.aims n.initiator

    go : (q : Bool) → HasCodes (if q then record b { link = Some (link_of n None) }
        else Rows.story_with_restored (Rows.story_with_sent (record b { link = Some (link_of n i) }) i) i)
    go true = record { carried = h.carried; undo = tt }
    go false = restored (Rows.story_with_sent (record b { link = Some (link_of n i) }) i) i
        (sent_on (record b { link = Some (link_of n i) }) i (record { carried = h.carried; undo = tt }))

-- ---- in a connection

carries : (b : Story) (o : Option CarriedBytes) → HasCodes b → HasCodeIf o → HasCodes (Rows.story_with_carried b o)
carries b None h e = h
carries b (Some x) h e = record { carried = put b.carried x h.carried e; undo = h.undo }

by_out : (b : Story) (l : Link) (o : Option MsgOut) → HasCodes b → HasCodeIf l.undo
    → HasCodes (Rows.story_after_out b l o)
by_out b l None h u = h
by_out b l (Some m) h u = carries (record b { link = Some (record l { last = last_out m l }) })
    (if Rows.is_parity_error m then l.undo else None) (record { carried = h.carried; undo = u })
    (go (Rows.is_parity_error m))
  where
    go : (q : Bool) → HasCodeIf (if q then l.undo else None)
    go true = u
    go false = tt

message : (c : CarriedBytes) (m : MsgIn) → HasCode c → HasCode (carried_after_message c m)
message c MsgIn.RestorePointers h = tt
message c _ h = h

message_if : (o : Option CarriedBytes) (m : MsgIn) → HasCodeIf o → HasCodeIf (Rows.carried_after_message_if o m)
message_if None m h = tt
message_if (Some c) m h = message c m h

by_name : (s : ScenarioValue) (b : Story) (l next : Link) (m : MsgIn) → HasCodes b
    → HasCodes (Rows.story_after_name s b l next m)
by_name s b l next m h =
    let c : Story = if is_none l.item then Rows.story_with_restored b next.item else b in
    let e : HasCodes c = go (is_none l.item) in
    let x : Link = record next { last = last_in m; before = l.last; undo = carried_if b l.item } in
    let u = of_item b l.item h in
    carries (record c { link = Some x }) (Rows.carried_after_message_if (carried_if c x.item) m)
    (record { carried = e.carried; undo = u }) (message_if (carried_if c x.item) m (of_item c x.item e))
  where
    go : (q : Bool) → HasCodes (if q then Rows.story_with_restored b next.item else b)
    go true = restored b next.item h
    go false = h

by_in : (s : ScenarioValue) (b : Story) (l : Link) (o : Option MsgIn) → HasCodes b
    → HasCodes (Rows.story_after_in s b l o)
by_in s b l None h = h
by_in s b l (Some m) h = by_name s b l (link_after_name b.sent s.commands l m) m h

byte : (c : CarriedBytes) (x : LineSet) (m : ℕ) → HasCode c → HasCode (carried_after_byte c x m)
byte c x m h = go (is_command x) (is_data x) (is_status_phase x)
  where
    go : (q r t : Bool) → HasCode (if q then record c {
      command = Rattle.due_model.specs.story_model.specs.CarriedBytes.area_with c.command m;
      block = c.block ++ m ∷ [];
    } else if r then record c { moved = Rattle.due_model.specs.story_model.specs.CarriedBytes.area_with c.moved m }
        else if t then record c { status = Rattle.due_model.specs.story_model.specs.CarriedBytes.area_with c.status m }
        else c)
    go true r t = h
    go false true t = h
    go false false true = h
    go false false false = h

byte_if : (o : Option CarriedBytes) (d : RowReading) → HasCodeIf o → HasCodeIf (Rows.carried_after_byte_if o d)
byte_if None d h = tt
byte_if (Some c) d h = byte c d.change.before (d.change.after.data_bits % 256) h

fault : (c : CarriedBytes) (x : LineSet) → HasCode c → HasCode (carried_after_fault c x)
fault c x h = go (is_command x) (is_data x) x.io
  where
    go : (q r t : Bool) → HasCode (if q then record c { struck = true; failure = Some PARITY_ERROR }
        else if r then record c { failure = Some (if t then INITIATOR_DETECTED_ERROR else PARITY_ERROR) } else c)
    go true r t = omega arith
    go false true true = omega arith
    go false true false = omega arith
    go false false t = h

fault_if : (o : Option CarriedBytes) (c : Option Change) → HasCodeIf o → HasCodeIf (Rows.carried_after_fault_if o c)
fault_if None c h = tt
fault_if (Some x) None h = h
fault_if (Some x) (Some c) h = fault x c.before h

by_fault : (b : Story) (l : Link) (kind : Kind) → HasCodes b → HasCodes (Rows.story_after_fault b l kind)
by_fault b l (Drives lines) h = h
by_fault b l (Fault bit) h = carries b (Rows.carried_after_fault_if (carried_if b l.item) b.bus_state.crossed) h
    (fault_if (carried_if b l.item) b.bus_state.crossed (of_item b l.item h))

by_crossing : (s : ScenarioValue) (b : Story) (l : Link) (d : RowReading) → HasCodes b → HasCodeIf l.undo
    → HasCodes (Rows.story_after_crossing s b l d)
by_crossing s b l d h u = go (is_some d.out) (is_some d.into) d.change.before.msg
  where
    go : (q r t : Bool)
        → HasCodes (if q then Rows.story_after_out b l d.out else if r then Rows.story_after_in s b l d.into
        else if t then b else Rows.story_with_carried b (Rows.carried_after_byte_if (carried_if b l.item) d))
    go true r t = by_out b l d.out h u
    go false true t = by_in s b l d.into h
    go false false true = h
    go false false false = carries b (Rows.carried_after_byte_if (carried_if b l.item) d) h
        (byte_if (carried_if b l.item) d (of_item b l.item h))

in_link : (s : ScenarioValue) (b : Story) (o : Option Link) (d : RowReading) (row : Row) → HasCodes b → LinkHas o
    → HasCodes (Rows.story_in_connection s b o d row)
in_link s b None d row h u = h
in_link s b (Some l) d row h u = go d.crosses
  where
    go : (q : Bool) → HasCodes (if q then Rows.story_after_crossing s b l d else Rows.story_after_fault b l row.kind)
    go true = by_crossing s b l d h u
    go false = by_fault b l row.kind h

-- ---- any row

on_bus : (s : ScenarioValue) (b : Story) (before after : Option Connection) (d : RowReading) (row : Row) → HasCodes b
    → HasCodes (Rows.story_on_bus s b before after d row)
on_bus s b None None d row h = on_free s b d row h
on_bus s b None (Some n) d row h = connects b n h
on_bus s b (Some m) None d row h = record { carried = h.carried; undo = tt }
on_bus s b (Some m) (Some n) d row h = in_link s b b.link d row h h.undo

pub codes_on : (s : ScenarioValue) (b : Story) (row : Row) → HasCodes b → HasCodes (story_after s b row)
codes_on s b row h =
    let d = row_reading b.bus_state row in
    let k = after_events s (Rows.story_by_change s b d row) (row_events_by s b d row) (go d.change.after.rst) in
    record { carried = k.carried; undo = k.undo }
  where
    go : (q : Bool) → HasCodes (if q then record b { link = None } else Rows.story_on_bus s b b.bus_state.connection
        (row_reading b.bus_state row).next (row_reading b.bus_state row) row)
    go true = record { carried = h.carried; undo = tt }
    go false = on_bus s b b.bus_state.connection (row_reading b.bus_state row).next (row_reading b.bus_state row) row h

pub no_codes : HasCodes Told.empty_story
no_codes = record { carried = tt; undo = tt }
