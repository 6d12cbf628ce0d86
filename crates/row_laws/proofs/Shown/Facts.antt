-- The plain disk array has a reply of a process exactly where the rows have shown one.
use Rattle.row_laws.proofs
use proofs.Names.{ℕ, ◌≡◌, Bool, true, false, ◌||◌, ◌%◌, ◌∙◌, List, [], ◌∷◌, ◌++◌, Option, Some, None, refl, sym, ap}
use proofs.Names.{if◌then◌else◌, is_some, is_none, or_true, Event, ProcId, LineSet, is_command, is_data, Kind, Drives}
use proofs.Names.{Fault, Row, Change, Connection, MsgIn, MsgOut, ScenarioValue, array_step, reply_in, same_id, Array}
use proofs.Names.{carried_id, carried_with, free_carried, ends_carried, check_carried, RowReading, row_reading}
use proofs.Names.{CarriedBytes, carried_of, with_carried, with_restored_pointers, carried_after_message}
use proofs.Names.{carried_after_byte, carried_after_fault, is_status_phase, carried_if, row_events_by, Item, process}
use proofs.Names.{abort, Link, last_out, last_in, link_after_name, Story, by_abort, is_aborted, is_sense_stopped}
use proofs.Names.{marked_refused, marked_shown, story_after_event, story_after_events, aim_of, story_on_free_bus}
use proofs.Names.{story_with_restored, story_with_sent, story_after_connection, story_with_carried, is_parity_error}
use proofs.Names.{story_after_out, carried_after_message_if, story_after_message, story_after_in, carried_after_byte_if}
use proofs.Names.{story_after_byte, carried_after_fault_if, story_after_fault, story_in_connection, story_on_bus}
use proofs.Names.{story_by_change, RunState, or_start, array_after_events, run_state_after, id_is, is_marked}
use proofs.{Names.{AreRepliesShown, UndoesAnswers}, Common.StoryWays.{StoryWay, says, hears, carries, stays, story_way}}
use proofs.Events.Replies.{replies_to, listed_on}
use Rattle.due_model.specs.story_model.specs.Story.{by_reset}

-- Whether it has an answer, of all processes.
abbrev pub SameAnswers : List CarriedBytes → List CarriedBytes → Type 0
SameAnswers before after = (id : ProcId) → is_marked (carried_of after id) ≡ is_marked (carried_of before id)

unchanged : (all : List CarriedBytes) → SameAnswers all all
unchanged all id = refl

puts_answer : (all : List CarriedBytes) (c : CarriedBytes) → is_marked c ≡ is_marked (carried_of all c.id)
    → SameAnswers all (with_carried all c)
puts_answer all c e id = ap is_marked (carried_with all c id) ∙ go (same_id c.id id) refl
  where
    go : (q : Bool) → same_id c.id id ≡ q
        → is_marked (if q then c else carried_of all id) ≡ is_marked (carried_of all id)
    go true f = e ∙ ap (λ (x : ProcId). is_marked (carried_of all x)) (id_is c.id id f)
    go false f = refl

-- ---- events

marks : (all : List CarriedBytes) (c : CarriedBytes) (d : ProcId) → c.id ≡ d → is_marked c ≡ true
    → (id : ProcId) → is_marked (carried_of (with_carried all c) id) ≡ (same_id d id || is_marked (carried_of all id))
marks all c d same e id = ap is_marked (carried_with all c id)
    ∙ ap (λ (x : ProcId). is_marked (if same_id x id then c else carried_of all id)) same ∙ go (same_id d id)
  where
    go : (q : Bool) → is_marked (if q then c else carried_of all id) ≡ (q || is_marked (carried_of all id))
    go true = e
    go false = refl

pub answered_on : (s : ScenarioValue) (b : Story) (e : Event) (id : ProcId)
    → is_marked (carried_of (story_after_event s b e).carried id)
    ≡ (replies_to e id || is_marked (carried_of b.carried id))
answered_on s b (Event.Accept p) id = refl
answered_on s b (Event.Refuse p) id = marks b.carried (marked_refused (carried_of b.carried p)) p
    (carried_id b.carried p) (or_true (carried_of b.carried p).shown) id
answered_on s b (Event.Run p) id =
    marks b.carried (marked_shown (carried_of b.carried p)) p (carried_id b.carried p) refl id
answered_on s b (Event.Fail p code) id =
    marks b.carried (marked_shown (carried_of b.carried p)) p (carried_id b.carried p) refl id
answered_on s b (Event.End p status) id =
    ap (λ (x : List CarriedBytes). is_marked (carried_of x id)) (check_carried _ p status)
answered_on s b (Event.Lost p) id = refl
answered_on s b (Event.Aborted h t u what) id = ap (λ (x : List CarriedBytes). is_marked (carried_of x id))
    (ends_carried (is_aborted h t u what) (is_sense_stopped h t u what) by_abort 1 s.commands b)
answered_on s b (Event.Reset dev) id = ap (λ (x : List CarriedBytes). is_marked (carried_of x id))
    (ends_carried (λ c. true) (λ c. true) by_reset 1 s.commands b)

abbrev Agree : Array → Story → Type 0
Agree a b = (id : ProcId) → is_some (reply_in a.replies id) ≡ is_marked (carried_of b.carried id)

event_agrees : (s : ScenarioValue) (a c : Array) (b : Story) (e : Event) → array_step s e (Some a) ≡ Some c → Agree a b
    → Agree c (story_after_event s b e)
event_agrees s a c b e st h id =
    listed_on s a c e st id ∙ ap (λ (q : Bool). replies_to e id || q) (h id) ∙ sym (answered_on s b e id)

no_array : (s : ScenarioValue) (e : Event) (c : Array) → array_step s e None ≡ Some c → ⊥
no_array s e c st = absurd cc

events_agree : (s : ScenarioValue) (a : Option Array) (b : Story) (shown : List Event) (c : Array)
    → array_after_events s a shown ≡ Some c → ((x : Array) → a ≡ Some x → Agree x b)
    → Agree c (story_after_events s b shown)
events_agree s a b [] c st h = h c st
events_agree s a b (e ∷ shown) c st h =
    go (λ x f. events_agree s a b shown x f h) (array_after_events s a shown) refl st
  where
    go : ((x : Array) → array_after_events s a shown ≡ Some x → Agree x (story_after_events s b shown))
        → (o : Option Array) → array_after_events s a shown ≡ o → array_step s e o ≡ Some c
        → Agree c (story_after_event s (story_after_events s b shown) e)
    go before None f g = absurd (no_array s e c g)
    go before (Some x) f g = event_agrees s x c (story_after_events s b shown) e g (before x f)

-- ---- what the row changes besides

abbrev pub Keeps : Story → Story → Type 0
Keeps b a = SameAnswers b.carried a.carried

keeps : (b a : Story) → a.carried ≡ b.carried → Keeps b a
keeps b a e id = ap (λ (x : List CarriedBytes). is_marked (carried_of x id)) e

with_restored : (b : Story) (item : Option Item) → Keeps b (story_with_restored b item)
with_restored b None = unchanged b.carried
with_restored b (Some (process p)) = puts_answer b.carried (with_restored_pointers (carried_of b.carried p))
    (ap (λ (x : ProcId). is_marked (carried_of b.carried x)) (sym (carried_id b.carried p)))
with_restored b (Some (abort k)) = unchanged b.carried

begun_keeps : (b : Story) (n : Connection) → Keeps b (story_after_connection b n)
begun_keeps b n = go n.reselected (aim_of b.aims n.initiator)
  where
    sent : (item : Option Item) → (story_with_sent (record b {
      link = Some (Rattle.due_model.specs.story_model.specs.Links.link_of n (aim_of b.aims n.initiator));
    }) item).carried ≡ b.carried
    sent None = refl
    sent (Some item) = refl

    go : (q : Bool) (item : Option Item)
        → Keeps b (if q then record b { link = Some (Rattle.due_model.specs.story_model.specs.Links.link_of n None) }
        else story_with_restored (story_with_sent (record b {
          link = Some (Rattle.due_model.specs.story_model.specs.Links.link_of n (aim_of b.aims n.initiator));
        }) item) item)
    go true item id = refl
    go false item id = with_restored (story_with_sent (record b {
      link = Some (Rattle.due_model.specs.story_model.specs.Links.link_of n (aim_of b.aims n.initiator));
    }) item) item id ∙ ap (λ (x : List CarriedBytes). is_marked (carried_of x id)) (sent item)

free_keeps : (s : ScenarioValue) (b : Story) (d : RowReading) (row : Row) → Keeps b (story_on_free_bus s b d row)
free_keeps s b d row = keeps b (story_on_free_bus s b d row) (free_carried s b d row)

-- ---- in a connection

own_answer : (b : Story) (d : ProcId) (c : CarriedBytes) → c.id ≡ d → is_marked c ≡ is_marked (carried_of b.carried d)
    → SameAnswers b.carried (with_carried b.carried c)
own_answer b d c same e =
    puts_answer b.carried c (e ∙ ap (λ (x : ProcId). is_marked (carried_of b.carried x)) (sym same))

message_answer : (c : CarriedBytes) (m : MsgIn)
    → (is_marked (carried_after_message c m) ≡ is_marked c) × ((carried_after_message c m).id ≡ c.id)
message_answer c MsgIn.SavePointer = (refl, refl)
message_answer c _ = (refl, refl)

message_keeps : (s : ScenarioValue) (b : Story) (l : Link) (m : MsgIn) → Keeps b (story_after_message s b l m)
message_keeps s b l m = go l.item
  where
    go : (item : Option Item)
        → Keeps b (story_with_carried (record b { link = Some l }) (carried_after_message_if (carried_if b item) m))
    go None = unchanged b.carried
    go (Some (abort k)) = unchanged b.carried
    go (Some (process p)) =
        let w = message_answer (carried_of b.carried p) m in
        own_answer b p (carried_after_message (carried_of b.carried p) m) (w.1 ∙ carried_id b.carried p) w.0

heard_keeps : (s : ScenarioValue) (b : Story) (l : Link) (m : MsgIn) → Keeps b (story_after_in s b l (Some m))
heard_keeps s b l m = go (is_none l.item)
  where
    after : Link
    after = link_after_name b.sent s.commands l m

    next : Link
    next = record after { last = last_in m; before = l.last; undo = carried_if b l.item }

    go : (q : Bool) → Keeps b (story_after_message s (if q then story_with_restored b after.item else b) next m)
    go true id = message_keeps s (story_with_restored b after.item) next m id ∙ with_restored b after.item id
    go false id = message_keeps s b next m id

byte_answer : (c : CarriedBytes) (l : LineSet) (byte : ℕ)
    → (is_marked (carried_after_byte c l byte) ≡ is_marked c) × ((carried_after_byte c l byte).id ≡ c.id)
byte_answer c l byte = go (is_command l) (is_data l) (is_status_phase l)
  where
    go : (q r t : Bool) → (is_marked (if q then record c {
      command = Rattle.due_model.specs.story_model.specs.CarriedBytes.area_with c.command byte;
      block = c.block ++ byte ∷ [];
    } else if r then record c {
      moved = Rattle.due_model.specs.story_model.specs.CarriedBytes.area_with c.moved byte;
    } else if t then record c {
      status = Rattle.due_model.specs.story_model.specs.CarriedBytes.area_with c.status byte;
    } else c) ≡ is_marked c) × ((if q then record c {
      command = Rattle.due_model.specs.story_model.specs.CarriedBytes.area_with c.command byte;
      block = c.block ++ byte ∷ [];
    } else if r then record c { moved = Rattle.due_model.specs.story_model.specs.CarriedBytes.area_with c.moved byte }
        else if t then record c {
          status = Rattle.due_model.specs.story_model.specs.CarriedBytes.area_with c.status byte;
        } else c).id ≡ c.id)
    go true r t = (refl, refl)
    go false true t = (refl, refl)
    go false false true = (refl, refl)
    go false false false = (refl, refl)

byte_keeps : (b : Story) (l : Link) (d : RowReading) → Keeps b (story_after_byte b l d)
byte_keeps b l d = go d.change.before.msg l.item
  where
    go : (q : Bool) (item : Option Item)
        → Keeps b (if q then b else story_with_carried b (carried_after_byte_if (carried_if b item) d))
    go true item = unchanged b.carried
    go false None = unchanged b.carried
    go false (Some (abort k)) = unchanged b.carried
    go false (Some (process p)) =
        let w = byte_answer (carried_of b.carried p) d.change.before (d.change.after.data_bits % 256) in
        own_answer b p (carried_after_byte (carried_of b.carried p) d.change.before (d.change.after.data_bits % 256))
        (w.1 ∙ carried_id b.carried p) w.0

fault_answer : (c : CarriedBytes) (l : LineSet)
    → (is_marked (carried_after_fault c l) ≡ is_marked c) × ((carried_after_fault c l).id ≡ c.id)
fault_answer c l = go (is_command l) (is_data l)
  where
    code : Option ℕ
    code =
        Some (if l.io then Rattle.due_model.specs.cdb_codec.specs.declared.sense.TheConstants.INITIATOR_DETECTED_ERROR
        else Rattle.due_model.specs.cdb_codec.specs.declared.sense.TheConstants.PARITY_ERROR)

    go : (q r : Bool) → (is_marked (if q then record c {
      struck = true;
      failure = Some Rattle.due_model.specs.cdb_codec.specs.declared.sense.TheConstants.PARITY_ERROR;
    } else if r then record c { failure = code } else c) ≡ is_marked c) × ((if q then record c {
      struck = true;
      failure = Some Rattle.due_model.specs.cdb_codec.specs.declared.sense.TheConstants.PARITY_ERROR;
    } else if r then record c { failure = code } else c).id ≡ c.id)
    go true r = (refl, refl)
    go false true = (refl, refl)
    go false false = (refl, refl)

fault_keeps : (b : Story) (l : Link) (kind : Kind) → Keeps b (story_after_fault b l kind)
fault_keeps b l (Drives lines) = unchanged b.carried
fault_keeps b l (Fault bit) = go l.item b.bus_state.crossed
  where
    go : (item : Option Item) (c : Option Change)
        → Keeps b (story_with_carried b (carried_after_fault_if (carried_if b item) c))
    go None c = unchanged b.carried
    go (Some (abort k)) c = unchanged b.carried
    go (Some (process p)) None = own_answer b p (carried_of b.carried p) (carried_id b.carried p) refl
    go (Some (process p)) (Some c) =
        let w = fault_answer (carried_of b.carried p) c.before in
        own_answer b p (carried_after_fault (carried_of b.carried p) c.before) (w.1 ∙ carried_id b.carried p) w.0

out_keeps : (b : Story) (l : Link) (m : MsgOut) → (is_parity_error m ≡ true → (u : CarriedBytes) → l.undo ≡ Some u
    → is_marked u ≡ is_marked (carried_of b.carried u.id)) → Keeps b (story_after_out b l (Some m))
out_keeps b l m h = go (is_parity_error m) h l.undo refl
  where
    go : (q : Bool)
        → (q ≡ true → (u : CarriedBytes) → l.undo ≡ Some u → is_marked u ≡ is_marked (carried_of b.carried u.id))
        → (o : Option CarriedBytes) → l.undo ≡ o → Keeps b
        (story_with_carried (record b { link = Some (record l { last = last_out m l }) }) (if q then o else None))
    go false f o e = unchanged b.carried
    go true f None e = unchanged b.carried
    go true f (Some u) e = puts_answer b.carried u (f refl u e)

crossing_keeps : (s : ScenarioValue) (b : Story) (l : Link) (d : RowReading) (row : Row)
    → ((m : MsgOut) (u : CarriedBytes) → d.out ≡ Some m → is_parity_error m ≡ true → l.undo ≡ Some u
    → is_marked u ≡ is_marked (carried_of b.carried u.id)) → Keeps b (story_in_connection s b (Some l) d row)
crossing_keeps s b l d row h = go (story_way s b l d row)
  where
    go : {after : Story} → StoryWay s b l d row after → Keeps b after
    go (says m _ e) = out_keeps b l m (λ p u f. h m u e p f)
    go (hears m _ _ _) = heard_keeps s b l m
    go (carries _ _ _) = byte_keeps b l d
    go (stays _) = fault_keeps b l row.kind

pub change_keeps : (s : ScenarioValue) (b : Story) (d : RowReading) (row : Row)
    → ((l : Link) (m : MsgOut) (u : CarriedBytes) → b.link ≡ Some l → d.out ≡ Some m → is_parity_error m ≡ true
    → l.undo ≡ Some u → is_marked u ≡ is_marked (carried_of b.carried u.id)) → Keeps b (story_by_change s b d row)
change_keeps s b d row h = go d.change.after.rst b.bus_state.connection d.next
  where
    inside : (o : Option Link) → b.link ≡ o → Keeps b (story_in_connection s b o d row)
    inside None e = unchanged b.carried
    inside (Some l) e = crossing_keeps s b l d row (λ m u f p g. h l m u e f p g)

    go : (q : Bool) (x y : Option Connection)
        → Keeps b (if q then record b { link = None } else story_on_bus s b x y d row)
    go true x y = unchanged b.carried
    go false None None = free_keeps s b d row
    go false None (Some n) = begun_keeps b n
    go false (Some m) None = unchanged b.carried
    go false (Some m) (Some n) = inside b.link refl

-- ---- a row

of_array : (s : ScenarioValue) (k : RunState) (a : Array) → k.array ≡ Some a → AreRepliesShown s k → Agree a k.story
of_array s k a e h id = ap (λ (o : Option Array). is_some (reply_in (or_start s o).replies id)) (sym e) ∙ h id

pub replies_next : (s : ScenarioValue) (k : RunState) (row : Row) → is_some (run_state_after s k row).array ≡ true
    → UndoesAnswers k row → AreRepliesShown s k → AreRepliesShown s (run_state_after s k row)
replies_next s k row some undoes h = go (run_state_after s k row).array refl some
  where
    d : RowReading
    d = row_reading k.story.bus_state row

    changed : Story
    changed = story_by_change s k.story d row

    before : (a : Array) → k.array ≡ Some a → Agree a changed
    before a e id = of_array s k a e h id ∙ sym (change_keeps s k.story d row undoes id)

    no_more : (let a : Option Array = None in is_some a) ≡ true → ⊥
    no_more e = absurd cc

    go : (o : Option Array) → (run_state_after s k row).array ≡ o → is_some o ≡ true
        → AreRepliesShown s (run_state_after s k row)
    go None e z id = absurd (no_more z)
    go (Some c) e z id =
        ap (λ (x : Option Array). is_some (reply_in (or_start s x).replies id)) e
        ∙ events_agree s k.array changed (row_events_by s k.story d row) c e before id

pub replies_first : (s : ScenarioValue) → AreRepliesShown s (Rattle.due_model.specs.RunSteps.first_run_state s)
replies_first s id = refl
