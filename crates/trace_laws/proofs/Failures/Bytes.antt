-- What a row of a connection makes of the faults that a process has met.
use Rattle.trace_laws.proofs
use proofs.Names.{ℕ, ◌≡◌, Bool, true, false, ◌%◌, ◌∙◌, List, [], ◌∷◌, ◌++◌, Option, Some, None, refl, sym, ap, subst}
use proofs.Names.{if◌then◌else◌, is_some, is_none, wrong, Event, ProcId, LineSet, is_command, is_data, is_fault}
use proofs.Names.{receiver_in, Kind, Drives, Fault, Row, Change, Connection, MsgIn, MsgOut, ScenarioValue, same_id}
use proofs.Names.{carried_id, carried_with, message_id, ends_carried, check_carried, RowReading, row_reading}
use proofs.Names.{CarriedBytes, area_with, carried_of, with_carried, with_restored_pointers, carried_after_message}
use proofs.Names.{carried_after_byte, is_status_phase, carried_if, row_events_by, Item, process, abort, Link, last_out}
use proofs.Names.{last_in, link_after_name, Story, by_abort, is_aborted, is_sense_stopped, marked_refused, marked_shown}
use proofs.Names.{story_after_event, story_after_events, story_with_restored, story_with_carried, is_parity_error}
use proofs.Names.{story_after_out, carried_after_message_if, story_after_message, story_after_in, carried_after_byte_if}
use proofs.Names.{story_after_byte, story_after_fault, story_in_connection, story_on_bus, story_by_change, RunState}
use proofs.Names.{carried_here, run_state_after, reading_is, id_is, put_own, IsRowIn, reading_in, IsClear, UndoesClear}
use Rattle.due_model.specs.story_model.specs.Story.{by_reset}

pub record SameFail (c d : CarriedBytes) : Type 0 where
  pub failure : d.failure ≡ c.failure
  pub struck : d.struck ≡ c.struck

pub same_fail : (c : CarriedBytes) → SameFail c c
same_fail c = record { failure = refl; struck = refl }

pub clear_as : (c d : CarriedBytes) → SameFail c d → IsClear c → IsClear d
clear_as c d w h = record { failure = w.failure ∙ h.failure; struck = w.struck ∙ h.struck }

both_fails : (c d e : CarriedBytes) → SameFail c d → SameFail d e → SameFail c e
both_fails c d e v w = record { failure = w.failure ∙ v.failure; struck = w.struck ∙ v.struck }

abbrev KeepsFail : List CarriedBytes → List CarriedBytes → Type 0
KeepsFail before after = (id : ProcId) → SameFail (carried_of before id) (carried_of after id)

puts_fail : (all : List CarriedBytes) (c : CarriedBytes) → SameFail (carried_of all c.id) c
    → KeepsFail all (with_carried all c)
puts_fail all c w id = subst (λ (x : CarriedBytes). SameFail (carried_of all id) x) (sym (carried_with all c id))
    (go (same_id c.id id) refl)
  where
    go : (q : Bool) → same_id c.id id ≡ q → SameFail (carried_of all id) (if q then c else carried_of all id)
    go true f = subst (λ (x : ProcId). SameFail (carried_of all x) c) (id_is c.id id f) w
    go false f = same_fail (carried_of all id)

-- ---- events

as_before : (before after : List CarriedBytes) → after ≡ before → KeepsFail before after
as_before before after e id = subst (λ (x : List CarriedBytes). SameFail (carried_of before id) (carried_of x id))
    (sym e) (same_fail (carried_of before id))

own_marks : (all : List CarriedBytes) (i : ProcId) (d : CarriedBytes) → d.id ≡ (carried_of all i).id
    → SameFail (carried_of all i) d → KeepsFail all (with_carried all d)
own_marks all i d e w =
    puts_fail all d (subst (λ (x : ProcId). SameFail (carried_of all x) d) (sym (e ∙ carried_id all i)) w)

event_fails : (s : ScenarioValue) (b : Story) (e : Event) → KeepsFail b.carried (story_after_event s b e).carried
event_fails s b (Event.Accept p) = as_before b.carried b.carried refl
event_fails s b (Event.Refuse p) =
    own_marks b.carried p (marked_refused (carried_of b.carried p)) refl (record { failure = refl; struck = refl })
event_fails s b (Event.Run p) =
    own_marks b.carried p (marked_shown (carried_of b.carried p)) refl (record { failure = refl; struck = refl })
event_fails s b (Event.Fail p code) =
    own_marks b.carried p (marked_shown (carried_of b.carried p)) refl (record { failure = refl; struck = refl })
event_fails s b (Event.End p status) =
    as_before b.carried (story_after_event s b (Event.End p status)).carried (check_carried _ p status)
event_fails s b (Event.Lost p) = as_before b.carried b.carried refl
event_fails s b (Event.Aborted h t u what) = as_before b.carried
    (story_after_event s b (Event.Aborted h t u what)).carried
    (ends_carried (is_aborted h t u what) (is_sense_stopped h t u what) by_abort 1 s.commands b)
event_fails s b (Event.Reset dev) = as_before b.carried (story_after_event s b (Event.Reset dev)).carried
    (ends_carried (λ c. true) (λ c. true) by_reset 1 s.commands b)

pub events_fail : (s : ScenarioValue) (b : Story) (shown : List Event)
    → KeepsFail b.carried (story_after_events s b shown).carried
events_fail s b [] id = same_fail (carried_of b.carried id)
events_fail s b (e ∷ shown) id =
    both_fails _ _ _ (events_fail s b shown id) (event_fails s (story_after_events s b shown) e id)

-- A row of a connection, but for its events.
pub row_carries : (s : ScenarioValue) (k : RunState) (row : Row) (n : Connection) (c : Change) (now : Bool) (l : Link)
    → IsRowIn k row n c → is_some (receiver_in n c) ≡ now → k.story.link ≡ Some l → (id : ProcId) → SameFail
    (carried_of (story_in_connection s k.story (Some l) (reading_in k.story.bus_state n c now) row).carried id)
    (carried_here (run_state_after s k row) id)
row_carries s k row n c now l r en link id =
    subst (λ (x : Story). SameFail (carried_of x.carried id) (carried_here (run_state_after s k row) id)) changed
    (events_fail s (story_by_change s k.story d row) (row_events_by s k.story d row) id)
  where
    d : RowReading
    d = row_reading k.story.bus_state row

    changed : story_by_change s k.story d row
        ≡ story_in_connection s k.story (Some l) (reading_in k.story.bus_state n c now) row
    changed = ap (λ (x : RowReading). story_by_change s k.story x row) (reading_is k row n c now r en)
        ∙ ap (λ (q : Bool). if q then record k.story { link = None }
        else story_on_bus s k.story k.story.bus_state.connection (Some n) (reading_in k.story.bus_state n c now) row)
        r.calm
        ∙ ap (λ (x : Option Connection). story_on_bus s k.story x (Some n) (reading_in k.story.bus_state n c now) row)
        r.connection_is
        ∙ ap (λ (x : Option Link). story_in_connection s k.story x (reading_in k.story.bus_state n c now) row) link

-- ---- no byte crosses, and no fault strikes

driven : (s : ScenarioValue) (b : Story) (l : Link) (d : RowReading) (row : Row) → d.crosses ≡ false
    → is_fault row.kind ≡ false → story_in_connection s b (Some l) d row ≡ b
driven s b l d row e f =
    ap (λ (q : Bool). if q then Rattle.due_model.specs.story_model.specs.TraceHistory.story_after_crossing s b l d
    else story_after_fault b l row.kind) e ∙ go row.kind f
  where
    go : (kind : Kind) → is_fault kind ≡ false → story_after_fault b l kind ≡ b
    go (Drives lines) z = refl
    go (Fault bit) z = wrong z

pub still_fails : (s : ScenarioValue) (k : RunState) (row : Row) (n : Connection) (c : Change) (l : Link)
    → IsRowIn k row n c → is_some (receiver_in n c) ≡ false → k.story.link ≡ Some l → is_fault row.kind ≡ false
    → (id : ProcId) → SameFail (carried_here k id) (carried_here (run_state_after s k row) id)
still_fails s k row n c l r en link ef id =
    subst (λ (x : Story). SameFail (carried_of x.carried id) (carried_here (run_state_after s k row) id)) (driven s
    k.story l (reading_in k.story.bus_state n c false) row refl ef) (row_carries s k row n c false l r en link id)

-- ---- a byte crosses

byte_same : (c : CarriedBytes) (l : LineSet) (byte : ℕ)
    → (SameFail c (carried_after_byte c l byte)) × ((carried_after_byte c l byte).id ≡ c.id)
byte_same c l byte = go (is_command l) (is_data l) (is_status_phase l)
  where
    go : (q r t : Bool)
        → (SameFail c (if q then record c { command = area_with c.command byte; block = c.block ++ byte ∷ [] }
        else if r then record c { moved = area_with c.moved byte }
        else if t then record c { status = area_with c.status byte } else c))
        × ((if q then record c { command = area_with c.command byte; block = c.block ++ byte ∷ [] }
        else if r then record c { moved = area_with c.moved byte }
        else if t then record c { status = area_with c.status byte } else c).id ≡ c.id)
    go true r t = (record { failure = refl; struck = refl }, refl)
    go false true t = (record { failure = refl; struck = refl }, refl)
    go false false true = (record { failure = refl; struck = refl }, refl)
    go false false false = (record { failure = refl; struck = refl }, refl)

pub byte_fails : (b : Story) (l : Link) (d : RowReading) → KeepsFail b.carried (story_after_byte b l d).carried
byte_fails b l d = go d.change.before.msg l.item
  where
    go : (q : Bool) (item : Option Item) → KeepsFail b.carried
        (if q then b else story_with_carried b (carried_after_byte_if (carried_if b item) d)).carried
    go true item = as_before b.carried b.carried refl
    go false None = as_before b.carried b.carried refl
    go false (Some (abort k)) = as_before b.carried b.carried refl
    go false (Some (process p)) =
        let w = byte_same (carried_of b.carried p) d.change.before (d.change.after.data_bits % 256) in
        own_marks b.carried p
        (carried_after_byte (carried_of b.carried p) d.change.before (d.change.after.data_bits % 256)) w.1 w.0

-- ---- a message to the target

pub out_fails : (b : Story) (l : Link) (m : MsgOut) (id : ProcId) → is_parity_error m ≡ false
    → SameFail (carried_of b.carried id) (carried_of (story_after_out b l (Some m)).carried id)
out_fails b l m id e = subst (λ (q : Bool). SameFail (carried_of b.carried id) (carried_of (story_with_carried
    (record b { link = Some (record l { last = last_out m l }) }) (if q then l.undo else None)).carried id)) (sym e)
    (same_fail (carried_of b.carried id))

pub out_clear : (b : Story) (l : Link) (m : MsgOut) (id : ProcId) → UndoesClear l.undo
    → IsClear (carried_of b.carried id) → IsClear (carried_of (story_after_out b l (Some m)).carried id)
out_clear b l m id undo h = go (is_parity_error m) l.undo undo
  where
    go : (q : Bool) (o : Option CarriedBytes) → UndoesClear o
        → IsClear (carried_of (story_with_carried (record b { link = Some (record l { last = last_out m l }) })
        (if q then o else None)).carried id)
    go false o w = h
    go true None w = h
    go true (Some u) w = subst IsClear (sym (carried_with b.carried u id)) (by (same_id u.id id))
      where
        by : (q : Bool) → IsClear (if q then u else carried_of b.carried id)
        by true = w
        by false = h

-- ---- a message to the initiator

clear_message : (c : CarriedBytes) (m : MsgIn) → IsClear c → IsClear (carried_after_message c m)
clear_message c MsgIn.SavePointer h = record { failure = h.failure; struck = h.struck }
clear_message c MsgIn.RestorePointers h = record { failure = refl; struck = refl }
clear_message c _ h = h

put_clear : (all : List CarriedBytes) (c : CarriedBytes) (d id : ProcId) → c.id ≡ d
    → (IsClear (carried_of all d) → IsClear c) → IsClear (carried_of all id)
    → IsClear (carried_of (with_carried all c) id)
put_clear all c d id same f h = subst IsClear (sym (carried_with all c id)) (go (same_id c.id id) refl)
  where
    go : (q : Bool) → same_id c.id id ≡ q → IsClear (if q then c else carried_of all id)
    go true z = f (subst (λ (x : ProcId). IsClear (carried_of all x)) (sym (sym same ∙ id_is c.id id z)) h)
    go false z = h

pub restored_clear : (b : Story) (item : Option Item) (id : ProcId) → IsClear (carried_of b.carried id)
    → IsClear (carried_of (story_with_restored b item).carried id)
restored_clear b None id h = h
restored_clear b (Some (abort k)) id h = h
restored_clear b (Some (process p)) id h = put_clear b.carried (with_restored_pointers (carried_of b.carried p)) p id
    (carried_id b.carried p) (λ w. record { failure = w.failure; struck = refl }) h

heard_clear : (s : ScenarioValue) (b : Story) (l : Link) (m : MsgIn) (id : ProcId) → IsClear (carried_of b.carried id)
    → IsClear (carried_of (story_after_message s b l m).carried id)
heard_clear s b l m id h = go l.item
  where
    go : (item : Option Item) → IsClear (carried_of
        (story_with_carried (record b { link = Some l }) (carried_after_message_if (carried_if b item) m)).carried id)
    go None = h
    go (Some (abort k)) = h
    go (Some (process p)) = put_clear b.carried (carried_after_message (carried_of b.carried p) m) p id
        (message_id (carried_of b.carried p) m ∙ carried_id b.carried p)
        (λ w. clear_message (carried_of b.carried p) m w) h

pub in_clear : (s : ScenarioValue) (b : Story) (l : Link) (m : MsgIn) (id : ProcId) → IsClear (carried_of b.carried id)
    → IsClear (carried_of (story_after_in s b l (Some m)).carried id)
in_clear s b l m id h = go (is_none l.item)
  where
    after : Link
    after = link_after_name b.sent s.commands l m

    next : Link
    next = record after { last = last_in m; before = l.last; undo = carried_if b l.item }

    go : (q : Bool) → IsClear
        (carried_of (story_after_message s (if q then story_with_restored b after.item else b) next m).carried id)
    go true = heard_clear s (story_with_restored b after.item) next m id (restored_clear b after.item id h)
    go false = heard_clear s b next m id h

-- RESTORE POINTERS clears the process of the connection.
pub in_restores : (s : ScenarioValue) (b : Story) (l : Link) (id : ProcId) → l.item ≡ Some (process id)
    → IsClear (carried_of (story_after_in s b l (Some MsgIn.RestorePointers)).carried id)
in_restores s b l id e = subst (λ (x : Option Item). IsClear
    (carried_of (story_with_carried (record (if is_none x then story_with_restored b x else b) {
      link = Some (record l { item = x; last = last_in MsgIn.RestorePointers; before = l.last; undo = carried_if b x });
    }) (carried_after_message_if
    (carried_if (if is_none x then story_with_restored b x else b) x) MsgIn.RestorePointers)).carried id)) (sym e)
    (subst IsClear (sym (put_own b.carried (carried_after_message (carried_of b.carried id) MsgIn.RestorePointers) id
    (carried_id b.carried id))) (record { failure = refl; struck = refl }))
