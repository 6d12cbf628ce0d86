-- What MESSAGE PARITY ERROR would bring back after a row of messages: where none of them restores pointers it is what
-- holds, but for data (6.6.13, 6.6.19).
use Rattle.transcript_laws.proofs
use proofs.Names.{ℕ, ◌≡◌, ◌∙◌, Bool, true, false, List, [], Option, Some, None, refl, sym, ap, ◌&&◌, same_Some, is_some}
use proofs.Names.{is_none, if◌then◌else◌, wrong, eq_self, Event, ProcId, LineSet, changes_phase, is_command, is_data}
use proofs.Names.{receiver_in, Change, Connection, Row, PARITY_ERROR, INITIATOR_DETECTED_ERROR, MsgIn, MsgOut}
use proofs.Names.{ScenarioValue, same_bool, carried_id, check_keeps, out_link, message_id, RowReading, CarriedBytes}
use proofs.Names.{carried_of, is_status_phase, carried_if, phase_events, end_events, link_events, Item, process, abort}
use proofs.Names.{Link, last_out, last_in, link_after_name, Story, by_status, story_with_end, story_after_events}
use proofs.Names.{story_with_carried, story_with_restored, is_parity_error, story_after_out, carried_after_message_if}
use proofs.Names.{story_after_message, story_after_in, story_after_byte, carried_after_fault_if, story_after_fault}
use proofs.Names.{story_in_connection, RunState, run_state_after, same_self, put_own, link_after, IsRowIn, reading_in}
use proofs.Names.{StoryWay, story_way, fault_id, message_byte, in_link, story_row, no_events, is_restore, is_alike}
use proofs.{Names.{undoes_nothing}, Standing.Changed.{KeepsId, changed_each, after_message, after_fault, ChangesBy}}
use proofs.Standing.Changed.{by_fault, unchanged, by_none}
use Rattle.due_model.specs.bus_trace.specs.declared.Kind.{Kind}
use Rattle.due_model.specs.bus_trace.specs.declared.Kind.TheVariants.{Drives, Fault}
use Rattle.due_model.specs.story_model.specs.HistoryEvents.{is_completion}
use Rattle.progress_laws.specs.row_laws.proofs.Common.StoryWays as ways

-- ---- one process

pub alike_self : (c : CarriedBytes) → is_alike c c ≡ true
alike_self c = λ i. same_self c.block i && bool_self c.struck i && same_self c.status.bytes i
    && eq_self c.status.active i && eq_self c.status.saved i && bool_self c.shown i && bool_self c.refused i
  where
    bool_self : (q : Bool) → same_bool q q ≡ true
    bool_self true = refl
    bool_self false = refl

-- What stays so as this is done.
abbrev pub KeepsAlike : (CarriedBytes → CarriedBytes) → Type 0
KeepsAlike f = (u c : CarriedBytes) → is_alike u c ≡ true → is_alike u (f c) ≡ true

message_keeps : (m : MsgIn) → is_restore m ≡ false → KeepsAlike (after_message m)
message_keeps MsgIn.RestorePointers e u c h = wrong e
message_keeps _ e u c h = h

-- Outside COMMAND.
fault_keeps : (lines : LineSet) → is_command lines ≡ false → KeepsAlike (after_fault lines)
fault_keeps lines e u c h = go (is_command lines) (is_data lines) e
  where
    go : (q r : Bool) → q ≡ false → is_alike u (if q then record c { struck = true; failure = Some PARITY_ERROR }
        else if r then record c { failure = Some (if lines.io then INITIATOR_DETECTED_ERROR else PARITY_ERROR) } else c)
        ≡ true
    go true r z = wrong z
    go false true z = h
    go false false z = h

-- ---- a story

abbrev pub UndoesSo : Story → Type 0
UndoesSo b = (l : Link) → b.link ≡ Some l → undoes_nothing b l l.undo ≡ true

-- As much is carried.
carried_undoes : (b c : Story) (l : Link) (u : Option CarriedBytes) → b.carried ≡ c.carried
    → undoes_nothing c l u ≡ true → undoes_nothing b l u ≡ true
carried_undoes b c l None e h = refl
carried_undoes b c l (Some u) e h = ap (λ (all : List CarriedBytes). is_alike u (carried_of all u.id)) e ∙ h

changed_undoes : (f : CarriedBytes → CarriedBytes) (b c : Story) (o : Option Item) (l : Link) → ChangesBy f b c o
    → KeepsId f → KeepsAlike f → b.link ≡ Some l → undoes_nothing b l l.undo ≡ true → UndoesSo c
changed_undoes f b c o l g same keeps el h = λ m em.
    let is : m ≡ l = same_Some m l (sym em ∙ g.link ∙ el) in
    ap (λ (x : Link). undoes_nothing c x x.undo) is ∙ go l.undo h
  where
    go : (u : Option CarriedBytes) → undoes_nothing b l u ≡ true → undoes_nothing c l u ≡ true
    go None z = refl
    go (Some u) z =
        ap (λ (all : List CarriedBytes). is_alike u (carried_of all u.id)) g.carried
        ∙ changed_each (λ (x : CarriedBytes). is_alike u x ≡ true) f b.carried o u.id same (λ x y. keeps u x y) z

-- ---- a row in a connection

-- The bytes are of messages, none of which restores the pointers, and no byte of COMMAND is struck.
pub record IsTalk (b : Story) (d : RowReading) : Type 0 where
  pub line : d.crosses ≡ true → d.change.before.msg ≡ true
  pub struck : (c : Change) → b.bus_state.crossed ≡ Some c → is_command c.before ≡ false
  pub plain : (m : MsgIn) → d.into ≡ Some m → is_restore m ≡ false

-- MESSAGE PARITY ERROR brings back just that; another message leaves all as it is.
said_undoes : (b : Story) (l : Link) (m : MsgOut) → undoes_nothing b l l.undo ≡ true
    → UndoesSo (story_after_out b l (Some m))
said_undoes b l m h = λ x ex.
    let undo : x.undo ≡ l.undo = ap (λ (y : Link). y.undo)
    (same_Some x (record l { last = last_out m l }) (sym ex ∙ out_link b l m)) in
    ap (λ (u : Option CarriedBytes). undoes_nothing (story_after_out b l (Some m)) x u) undo
    ∙ go (is_parity_error m) l.undo h x
  where
    go : (q : Bool) (u : Option CarriedBytes) → undoes_nothing b l u ≡ true → (x : Link) → undoes_nothing
        (story_with_carried (record b { link = Some (record l { last = last_out m l }) }) (if q then u else None)) x u
        ≡ true
    go q None z x = refl
    go true (Some u) z x = ap (λ (c : CarriedBytes). is_alike u c) (put_own b.carried u u.id refl) ∙ alike_self u
    go false (Some u) z x = z

-- What would be brought back is what held before the message.
heard_undoes : (s : ScenarioValue) (b : Story) (l : Link) (m : MsgIn) → is_restore m ≡ false
    → UndoesSo (story_after_in s b l (Some m))
heard_undoes s b l m plain = λ x ex.
    let undo : x.undo ≡ carried_if b l.item = ap (λ (y : Link). y.undo) (same_Some x
    (record next { last = last_in m; before = l.last; undo = carried_if b l.item }) (sym ex ∙ in_link s b l m)) in
    ap (λ (u : Option CarriedBytes). undoes_nothing (story_after_in s b l (Some m)) x u) undo ∙ go l.item refl x
  where
    next : Link
    next = link_after_name b.sent s.commands l m

    own : (id : ProcId) → is_alike (carried_of b.carried id) (carried_of b.carried (carried_of b.carried id).id) ≡ true
    own id = ap (λ (y : ProcId). is_alike (carried_of b.carried id) (carried_of b.carried y)) (carried_id b.carried id)
        ∙ alike_self (carried_of b.carried id)

    after : (id : ProcId) (o : Option Item)
        → is_alike (carried_of b.carried id) (carried_of (story_with_carried (record b {
          link = Some (record next { last = last_in m; before = l.last; undo = carried_if b l.item });
        }) (carried_after_message_if (carried_if b o) m)).carried (carried_of b.carried id).id) ≡ true
    after id None = own id
    after id (Some (abort j)) = own id
    after id (Some (process x)) = changed_each (λ (c : CarriedBytes). is_alike (carried_of b.carried id) c ≡ true)
        (after_message m) b.carried (Some (process x)) (carried_of b.carried id).id (λ c. message_id c m)
        (λ c z. message_keeps m plain (carried_of b.carried id) c z) (own id)

    go : (o : Option Item) → l.item ≡ o
        → (x : Link) → undoes_nothing (story_after_in s b l (Some m)) x (carried_if b l.item) ≡ true
    go None e x = ap (λ (y : Option Item). undoes_nothing (story_after_in s b l (Some m)) x (carried_if b y)) e
    go (Some (abort j)) e x =
        ap (λ (y : Option Item). undoes_nothing (story_after_in s b l (Some m)) x (carried_if b y)) e
    go (Some (process id)) e x =
        ap (λ (y : Option Item). undoes_nothing (story_after_in s b l (Some m)) x (carried_if b y)) e
        ∙ ap (λ (y : Option Item). is_alike (carried_of b.carried id)
        (carried_of (story_after_message s (if is_none y then story_with_restored b next.item else b) (record next {
          last = last_in m;
          before = l.last;
          undo = carried_if b l.item;
        }) m).carried (carried_of b.carried id).id)) e ∙ after id next.item

inside_undoes : (s : ScenarioValue) (b : Story) (l : Link) (d : RowReading) (row : Row) → b.link ≡ Some l → IsTalk b d
    → undoes_nothing b l l.undo ≡ true → UndoesSo (story_in_connection s b (Some l) d row)
inside_undoes s b l d row el t h = go (story_way s b l d row)
  where
    stays : UndoesSo b
    stays m em = ap (λ (x : Link). undoes_nothing b x x.undo) (same_Some m l (sym em ∙ el)) ∙ h

    byte : d.change.before.msg ≡ true → UndoesSo (story_after_byte b l d)
    byte e m em =
        let is : story_after_byte b l d ≡ b = message_byte b l d e in
        ap (λ (x : Story). undoes_nothing x m m.undo) is ∙ stays m (ap (λ (x : Story). x.link) (sym is) ∙ em)

    struck : (bit : ℕ) (c : Option Change) → b.bus_state.crossed ≡ c
        → UndoesSo (story_with_carried b (carried_after_fault_if (carried_if b l.item) c))
    struck bit None e = changed_undoes unchanged b _ l.item l (by_none b l.item) (λ c. refl) (λ u c z. z) el h
    struck bit (Some c) e = changed_undoes (after_fault c.before) b _ l.item l (by_fault b c l.item)
        (λ x. fault_id x c.before) (fault_keeps c.before (t.struck c e)) el h

    faulted : (kind : Kind) → UndoesSo (story_after_fault b l kind)
    faulted (Drives lines) = stays
    faulted (Fault bit) = struck bit b.bus_state.crossed refl

    go : {after : Story} → StoryWay s b l d row after → UndoesSo after
    go (ways.says m _ _) = said_undoes b l m h
    go (ways.hears m _ _ z) = heard_undoes s b l m (t.plain m z)
    go (ways.carries e _ _) = byte (t.line e)
    go (ways.stays _) = faulted row.kind

-- ---- the row, with its events

taken_carried : (s : ScenarioValue) (b : Story) (o : Option CarriedBytes)
    → (story_after_events s b (end_events o)).carried ≡ b.carried
taken_carried s b None = refl
taken_carried s b (Some c) = (check_keeps (story_with_end b c.id (by_status _)) c.id _).0

-- It leads from no COMMAND, and not to STATUS; or the phase stays.
row_carried : (s : ScenarioValue) (k : RunState) (row : Row) (n : Connection) (c : Change) (now : Bool) (l : Link)
    → IsRowIn k row n c → is_some (receiver_in n c) ≡ now → k.story.link ≡ Some l
    → (changes_phase c ≡ true → (is_command c.before ≡ false) × (is_status_phase c.after ≡ false))
    → (run_state_after s k row).story.carried
    ≡ (story_in_connection s k.story (Some l) (reading_in k.story.bus_state n c now) row).carried
row_carried s k row n c now l r er el quiet = ap (λ (x : Story). x.carried) (story_row s k row n c now r er)
    ∙ ap (λ (x : Option Link).
    (story_after_events s (story_in_connection s k.story x d row) (link_events s k.story x d)).carried) el
    ∙ go (changes_phase c) (is_completion l c) refl
  where
    d : RowReading
    d = reading_in k.story.bus_state n c now

    inside : Story
    inside = story_in_connection s k.story (Some l) d row

    go : (q t : Bool) → changes_phase c ≡ q
        → (story_after_events s inside (if q then phase_events s k.story (carried_if k.story l.item) c
        else if t then end_events (carried_if k.story l.item) else [])).carried ≡ inside.carried
    go true t e =
        let w = quiet e in
        ap (λ (shown : List Event). (story_after_events s inside shown).carried)
        (no_events s k.story (carried_if k.story l.item) c w.0 w.1)
    go false true e = taken_carried s inside (carried_if k.story l.item)
    go false false e = refl

pub row_undoes : (s : ScenarioValue) (k : RunState) (row : Row) (n : Connection) (c : Change) (now : Bool) (l : Link)
    → IsRowIn k row n c → is_some (receiver_in n c) ≡ now → k.story.link ≡ Some l
    → (changes_phase c ≡ true → (is_command c.before ≡ false) × (is_status_phase c.after ≡ false))
    → IsTalk k.story (reading_in k.story.bus_state n c now) → UndoesSo k.story
    → UndoesSo (run_state_after s k row).story
row_undoes s k row n c now l r er el quiet t h = λ m em.
    let d : RowReading = reading_in k.story.bus_state n c now in
    let link = link_after s k row n c now r er
    ∙ ap (λ (x : Option Link). (story_in_connection s k.story x d row).link) el in
    carried_undoes (run_state_after s k row).story (story_in_connection s k.story (Some l) d row) m m.undo
    (row_carried s k row n c now l r er el quiet) (inside_undoes s k.story l d row el t (h l el) m (sym link ∙ em))
