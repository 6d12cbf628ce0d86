-- What is over has an ending, after any rows.
use Rattle.progress_laws.proofs
use proofs.Names.{ℕ, ◌≡◌, ◌+◌, Bool, true, false, not, ◌&&◌, ◌||◌, ◌∙◌, List, [], ◌∷◌, ◌++◌, Option, Some, None, refl}
use proofs.Names.{sym, ap, subst, inl, inr, eqb-true, cases_Bool, list_any, if◌then◌else◌, ◌==◌, is_some, is_none}
use proofs.Names.{wrong, and_first, and_second, eq_self, Event, ProcId, falls, Kind, Drives, Fault, Row, Connection}
use proofs.Names.{Call, Calling, CHECK_CONDITION, MsgIn, MsgOut, ScenarioValue, CmdDef, same_bool, same_id, RowReading}
use proofs.Names.{row_reading, CarriedBytes, carried_if, row_events_by, Item, process, abort, command_item, has_item}
use proofs.Names.{sense_item, is_open, Link, link_of, link_after_name, Story, Ending, by_status, by_loss, by_abort}
use proofs.Names.{by_reset, unanswered, is_aborted, is_ended, is_sense_stopped, story_with_ends, story_with_end}
use proofs.Names.{story_with_over, story_after_event, story_after_events, with_check, with_ending, story_with_end_if}
use proofs.Names.{aim_of, is_arbitration_entry, story_with_aim, story_without_answer, story_with_try}
use proofs.Names.{story_after_calling_by, story_after_calling, story_on_free_bus, story_with_restored, story_with_sent}
use proofs.Names.{story_after_connection, story_with_carried, story_after_out, story_after_in, story_after_byte}
use proofs.Names.{story_after_fault, story_in_connection, story_on_bus, story_by_change, is_parity_error}
use proofs.Names.{carried_after_byte_if, carried_after_fault_if, RunState, run_state, sense_apart}

-- ---- what is over, and what has ended

abbrev pub told : Story → List Item × List (ℕ × Ending)
told b = (b.sent.over, b.ended)

abbrev pub AllEnded : List Item × List (ℕ × Ending) → Type 0
AllEnded t = (m : ℕ) → has_item t.0 (command_item m) ≡ true → is_ended t.1 m ≡ true

sense_of : (q : Bool) → same_bool q false ≡ true → q ≡ false
sense_of true e = wrong (sym e)
sense_of false e = refl

end_told : (b : Story) (id : ProcId) (e : Ending) → AllEnded (told b) → AllEnded (told (story_with_end b id e))
end_told b id e h n z = go (same_id id (record { command = n; sense = false })) refl z
  where
    grown : (q : Bool) → is_ended b.ended n ≡ true
        → is_ended (if q then b.ended else (id.command, e) ∷ b.ended) n ≡ true
    grown true w = w
    grown false w = elim (cases_Bool (id.command == n)) [ inl e ↦ rw e | inr e ↦ rw e w ]

    own : id.command ≡ n → id.sense ≡ false → (q : Bool) → (id.sense || is_ended b.ended id.command) ≡ q
        → is_ended (if q then b.ended else (id.command, e) ∷ b.ended) n ≡ true
    own c f true w = ap (is_ended b.ended) (sym c) ∙ ap (λ (x : Bool). x || is_ended b.ended id.command) (sym f) ∙ w
    own c f false w = ap (λ (x : Bool). x || is_ended b.ended n) (ap (λ (m : ℕ). m == n) c ∙ eq_self n)

    go : (x : Bool) → same_id id (record { command = n; sense = false }) ≡ x
        → (x || has_item b.sent.over (command_item n)) ≡ true → is_ended (with_ending b.ended id e) n ≡ true
    go true f w = own (eqb-true id.command n (and_first (id.command == n) (same_bool id.sense false) f))
        (sense_of id.sense (and_second (id.command == n) (same_bool id.sense false) f))
        (id.sense || is_ended b.ended id.command) refl
    go false f w = grown (id.sense || is_ended b.ended id.command) (h n w)

sense_told : (b : Story) (m : ℕ) → AllEnded (told b) → AllEnded (told (story_with_over b (sense_item m)))
sense_told b m h n z = h n (sym (ap (λ (x : Bool). x || has_item b.sent.over (command_item n)) (sense_apart m n)) ∙ z)

-- ---- events

ends_told : (drops stops : CmdDef → Bool) (e : Ending) (m : ℕ) (commands : List CmdDef) (b : Story) → AllEnded (told b)
    → AllEnded (told (story_with_ends drops stops e m commands b))
ends_told drops stops e m [] b h = h
ends_told drops stops e m (c ∷ commands) b h =
    ends_told drops stops e (m + 1) commands
    (story_with_end_if drops stops e m c b)
    (go (is_open b.sent m && drops c) (stops c && list_any (λ k. k == m) b.sent.checks))
  where
    go : (q r : Bool) → AllEnded (told (if q then story_with_end b (record { command = m; sense = false }) e
        else if r then story_with_over b (sense_item m) else b))
    go true r = end_told b (record { command = m; sense = false }) e h
    go false true = sense_told b m h
    go false false = h

check_told : (b : Story) (id : ProcId) (status : ℕ) → told (with_check b id status) ≡ told b
check_told b id status = elim (cases_Bool (not id.sense && status == CHECK_CONDITION)) [ inl e ↦ rw e | inr e ↦ rw e ]

event_told : (s : ScenarioValue) (b : Story) (event : Event) → AllEnded (told b)
    → AllEnded (told (story_after_event s b event))
event_told s b (Event.End id status) h = subst AllEnded
    (sym (check_told (story_with_end b id (by_status status)) id status)) (end_told b id (by_status status) h)
event_told s b (Event.Lost id) h = end_told b id by_loss h
event_told s b (Event.Aborted host target unit what) h =
    ends_told (is_aborted host target unit what) (is_sense_stopped host target unit what) by_abort 1 s.commands b h
event_told s b (Event.Reset dev) h = ends_told (λ c. true) (λ c. true) by_reset 1 s.commands b h
event_told s b _ h = h

events_told : (s : ScenarioValue) (b : Story) (shown : List Event) → AllEnded (told b)
    → AllEnded (told (story_after_events s b shown))
events_told s b [] h = h
events_told s b (event ∷ shown) h = event_told s (story_after_events s b shown) event (events_told s b shown h)

-- ---- a calling without an answer

try_told : (s : ScenarioValue) (b : Story) (dev : ℕ) (item : Option Item) → AllEnded (told b)
    → AllEnded (told (story_with_try s b dev item))
try_told s b dev None h = h
try_told s b dev (Some item) h = go _ item
  where
    go : (q : Bool) (i : Item) → AllEnded
        (told (if q then story_without_answer (record b { sent = record b.sent { tries = item ∷ b.sent.tries } }) i
        else record b { sent = record b.sent { tries = item ∷ b.sent.tries } }))
    go true (process id) = end_told (record b { sent = record b.sent { tries = item ∷ b.sent.tries } }) id unanswered h
    go true (abort k) = λ n z. h n z
    go false i = h

calling_told : (s : ScenarioValue) (b : Story) (call : Option Call) → AllEnded (told b)
    → AllEnded (told (story_after_calling s b call))
calling_told s b None h = h
calling_told s b (Some c) h = by c.calling
  where
    by : (g : Option Calling) → AllEnded (told (story_after_calling_by s b c.caller g))
    by None = h
    by (Some g) =
        elim (cases_Bool (is_none g.answered && not g.reselects)) [
          | inl e ↦ rw e (try_told s b c.caller (aim_of b.aims c.caller) h)
          | inr e ↦ rw e h
        ]

-- ---- a connection: nothing is over by it

restored_told : (b : Story) (item : Option Item) → told (story_with_restored b item) ≡ told b
restored_told b None = refl
restored_told b (Some (process id)) = refl
restored_told b (Some (abort k)) = refl

sent_told : (b : Story) (item : Option Item) → told (story_with_sent b item) ≡ told b
sent_told b None = refl
sent_told b (Some item) = refl

begun_told : (b : Story) (n : Connection) → told (story_after_connection b n) ≡ told b
begun_told b n = go n.reselected (aim_of b.aims n.initiator)
  where
    go : (q : Bool) (item : Option Item) → told (if q then record b { link = Some (link_of n None) }
        else story_with_restored (story_with_sent (record b { link = Some (link_of n item) }) item) item) ≡ told b
    go true item = refl
    go false item = restored_told _ item ∙ sent_told _ item

carried_told : (b : Story) (c : Option CarriedBytes) → told (story_with_carried b c) ≡ told b
carried_told b None = refl
carried_told b (Some c) = refl

out_told : (b : Story) (l : Link) (m : Option MsgOut) → told (story_after_out b l m) ≡ told b
out_told b l None = refl
out_told b l (Some m) = carried_told _ (if is_parity_error m then l.undo else None)

in_told : (s : ScenarioValue) (b : Story) (l : Link) (m : Option MsgIn) → told (story_after_in s b l m) ≡ told b
in_told s b l None = refl
in_told s b l (Some m) = carried_told _ _ ∙ go (is_none l.item)
  where
    go :
        (q : Bool) → told (if q then story_with_restored b (link_after_name b.sent s.commands l m).item else b) ≡ told b
    go true = restored_told b (link_after_name b.sent s.commands l m).item
    go false = refl

byte_told : (b : Story) (l : Link) (d : RowReading) → told (story_after_byte b l d) ≡ told b
byte_told b l d = go d.change.before.msg
  where
    go : (q : Bool)
        → told (if q then b else story_with_carried b (carried_after_byte_if (carried_if b l.item) d)) ≡ told b
    go true = refl
    go false = carried_told b (carried_after_byte_if (carried_if b l.item) d)

fault_told : (b : Story) (l : Link) (kind : Kind) → told (story_after_fault b l kind) ≡ told b
fault_told b l (Drives lines) = refl
fault_told b l (Fault bit) = carried_told b (carried_after_fault_if (carried_if b l.item) b.bus_state.crossed)

connected_told : (s : ScenarioValue) (b : Story) (l : Option Link) (d : RowReading) (row : Row)
    → told (story_in_connection s b l d row) ≡ told b
connected_told s b None d row = refl
connected_told s b (Some l) d row = go d.crosses (is_some d.out) (is_some d.into)
  where
    go : (q r t : Bool) → told (if q then (if r then story_after_out b l d.out
        else if t then story_after_in s b l d.into else story_after_byte b l d) else story_after_fault b l row.kind)
        ≡ told b
    go true true t = out_told b l d.out
    go true false true = in_told s b l d.into
    go true false false = byte_told b l d
    go false r t = fault_told b l row.kind

-- ---- a row

free_told : (s : ScenarioValue) (b : Story) (d : RowReading) (row : Row) → AllEnded (told b)
    → AllEnded (told (story_on_free_bus s b d row))
free_told s b d row h = go (is_arbitration_entry b d) (falls d.change.before.sel d.change.after.sel)
  where
    go : (q r : Bool) → AllEnded
        (told (if q then story_with_aim s b row else if r then story_after_calling s b b.bus_state.call else b))
    go true r = h
    go false true = calling_told s b b.bus_state.call h
    go false false = h

bus_told : (s : ScenarioValue) (b : Story) (m o : Option Connection) (d : RowReading) (row : Row) → AllEnded (told b)
    → AllEnded (told (story_on_bus s b m o d row))
bus_told s b None None d row h = free_told s b d row h
bus_told s b None (Some n) d row h = subst AllEnded (sym (begun_told b n)) h
bus_told s b (Some m) None d row h = h
bus_told s b (Some m) (Some n) d row h = subst AllEnded (sym (connected_told s b b.link d row)) h

change_told : (s : ScenarioValue) (b : Story) (d : RowReading) (row : Row) → AllEnded (told b)
    → AllEnded (told (story_by_change s b d row))
change_told s b d row h = go d.change.after.rst
  where
    go : (q : Bool)
        → AllEnded (told (if q then record b { link = None } else story_on_bus s b b.bus_state.connection d.next d row))
    go true = h
    go false = bus_told s b b.bus_state.connection d.next d row h

pub endings_start : (s : ScenarioValue) → AllEnded (told (run_state s []).story)
endings_start s n e = wrong (sym e)

pub endings_next : (s : ScenarioValue) (p : List Row) (row : Row) → AllEnded (told (run_state s p).story)
    → AllEnded (told (run_state s (row ∷ p)).story)
endings_next s p row h =
    let k : RunState = run_state s p in
    let d : RowReading = row_reading k.story.bus_state row in
    events_told s (story_by_change s k.story d row) (row_events_by s k.story d row) (change_told s k.story d row h)

pub have_endings : (s : ScenarioValue) (p : List Row) → AllEnded (told (run_state s p).story)
have_endings s [] = endings_start s
have_endings s (row ∷ p) = endings_next s p row (have_endings s p)
