-- What initiators have sent is of the scenario; and a reset ends all of it that is open (6.2.2).
use Rattle.transcript_laws.proofs
use proofs.Names.{ℕ, zero, suc, ◌≡◌, ◌∙◌, ◌+◌, Bool, true, false, not, ◌&&◌, List, [], ◌∷◌, Option, Some, None, refl}
use proofs.Names.{sym, ap, subst, arith, ◌||◌, list_any, is_some, if◌then◌else◌, wrong', and_false, Event, ProcId}
use proofs.Names.{Connection, Row, ScenarioValue, CmdDef, none_at, command_at, process_if, process_of, event_sent}
use proofs.Names.{events_sent, RowReading, row_reading, row_events_by, Item, Sent, process, abort, same_item, has_item}
use proofs.Names.{sense_item, Link, link_of, Story, by_reset, story_with_ends, story_after_event, aim_of}
use proofs.Names.{story_with_sent, story_with_restored, story_after_connection, story_in_connection, story_on_bus}
use proofs.Names.{story_by_change, RunState, run_state, run_state_after, id_is, aims_are, IsItem, is_process, none_some}
use proofs.Names.{AreChecked, IsChecked, reset_senses, own_has, more_has, free_keeps, restored_sent, inside_sent}
use proofs.Names.{reset_over, is_open_process, ends_all}
use Rattle.progress_laws.specs.book_laws.specs.Items.{is_abort}

-- ---- what a row sends

-- Nothing, or the item of the initiator that begins a connection.
pub data SentAfter (b : Story) (d : RowReading) (sent : List Item) : Type 0 where
  as_before : sent ≡ b.sent.sent → SentAfter b d sent
  one_more : (n : Connection) (item : Item) → b.bus_state.connection ≡ None → d.next ≡ Some n → n.reselected ≡ false
      → aim_of b.aims n.initiator ≡ Some item → sent ≡ item ∷ b.sent.sent → SentAfter b d sent

begun_sent : (b : Story) (d : RowReading) (n : Connection) → b.bus_state.connection ≡ None → d.next ≡ Some n
    → SentAfter b d (story_after_connection b n).sent.sent
begun_sent b d n alone next = go n.reselected refl (aim_of b.aims n.initiator) refl
  where
    go : (q : Bool) → n.reselected ≡ q → (o : Option Item) → aim_of b.aims n.initiator ≡ o
        → SentAfter b d (if q then record b { link = Some (link_of n None) }
        else story_with_restored (story_with_sent (record b { link = Some (link_of n o) }) o) o).sent.sent
    go true r o e = as_before refl
    go false r None e = as_before refl
    go false r (Some item) e = one_more n item alone next r e
        (restored_sent (story_with_sent (record b { link = Some (link_of n (Some item)) }) (Some item)) (Some item))

bus_sent : (s : ScenarioValue) (b : Story) (m o : Option Connection) (d : RowReading) (row : Row)
    → b.bus_state.connection ≡ m → d.next ≡ o → SentAfter b d (story_on_bus s b m o d row).sent.sent
bus_sent s b None None d row em en = as_before (free_keeps s b d row).2
bus_sent s b None (Some n) d row em en = begun_sent b d n em en
bus_sent s b (Some m) None d row em en = as_before refl
bus_sent s b (Some m) (Some n) d row em en = as_before (inside b.link)
  where
    inside : (l : Option Link) → (story_in_connection s b l d row).sent.sent ≡ b.sent.sent
    inside None = refl
    inside (Some l) = ap (λ (x : Sent). x.sent) (inside_sent s b l d row)

pub row_sends : (s : ScenarioValue) (k : RunState) (row : Row)
    → SentAfter k.story (row_reading k.story.bus_state row) (run_state_after s k row).story.sent.sent
row_sends s k row = subst (λ (x : List Item). SentAfter k.story d x)
    (sym (events_sent s (story_by_change s k.story d row) (row_events_by s k.story d row))) (go d.change.after.rst)
  where
    d : RowReading
    d = row_reading k.story.bus_state row

    go : (q : Bool) → SentAfter k.story d (if q then record k.story { link = None }
        else story_on_bus s k.story k.story.bus_state.connection d.next d row).sent.sent
    go true = as_before refl
    go false = bus_sent s k.story k.story.bus_state.connection d.next d row refl refl

-- ---- it is of the scenario

own_item : (s : ScenarioValue) (dev : ℕ) (item : Item) (id : ProcId) → IsItem s dev item
    → same_item item (process id) ≡ true → is_some (process_of s id) ≡ true
own_item s dev item id (is_process x p e i) f =
    ap (λ (y : ProcId). is_some (process_of s y)) (sym (id_is x id f)) ∙ ap (λ o. is_some o) e
own_item s dev item id (is_abort n a e i) f = wrong' f

pub sent_known : (s : ScenarioValue) (p : List Row) (id : ProcId)
    → has_item (run_state s p).story.sent.sent (process id) ≡ true → is_some (process_of s id) ≡ true
sent_known s [] id h = wrong' h
sent_known s (row ∷ p) id h = go (row_sends s (run_state s p) row) (λ z. sent_known s p id z)
  where
    go : SentAfter (run_state s p).story (row_reading (run_state s p).story.bus_state row)
        (run_state s (row ∷ p)).story.sent.sent
        → (has_item (run_state s p).story.sent.sent (process id) ≡ true → is_some (process_of s id) ≡ true)
        → is_some (process_of s id) ≡ true
    go (as_before e) before = before (ap (λ (x : List Item). has_item x (process id)) (sym e) ∙ h)
    go (one_more n item alone next sel aim e) before =
        at (same_item item (process id)) refl (ap (λ (x : List Item). has_item x (process id)) (sym e) ∙ h)
      where
        at : (q : Bool) → same_item item (process id) ≡ q
            → (q || has_item (run_state s p).story.sent.sent (process id)) ≡ true → is_some (process_of s id) ≡ true
        at true f z = own_item s n.initiator item id (aims_are s p n.initiator item aim) f
        at false f z = before z

-- ---- a reset

pub none_any : (t : Item → Bool) (items : List Item) → ((i : Item) → has_item items i ≡ true → t i ≡ false)
    → list_any t items ≡ false
none_any t [] h = refl
none_any t (i ∷ items) h = λ j. h i (own_has i items) j || none_any t items (λ x e. h x (more_has i x items e)) j

command_ended : (s : ScenarioValue) (b : Story) (l : ℕ)
    → is_some (process_of s (record { command = l; sense = false })) ≡ true
    → has_item b.sent.sent (process (record { command = l; sense = false })) ≡ true
    → has_item (story_after_event s b (Event.Reset 0)).sent.over (process (record { command = l; sense = false }))
    ≡ true
command_ended s b l known sent = go l (command_at s.commands l) refl known sent
  where
    first : (x : ℕ) → suc x ≡ 1 + x
    first x = omega arith

    go : (m : ℕ) (o : Option CmdDef) → command_at s.commands m ≡ o
        → is_some (process_if s (record { command = m; sense = false }) o) ≡ true
        → has_item b.sent.sent (process (record { command = m; sense = false })) ≡ true
        → has_item (story_after_event s b (Event.Reset 0)).sent.over (process (record { command = m; sense = false }))
        ≡ true
    go m None e f g = wrong' f
    go zero (Some c) e f g = none_some c (sym (none_at s.commands) ∙ e)
    go (suc i) (Some c) e f g = reset_over s.commands 1 i (suc i) c b (first i) e g

pub reset_ends : (s : ScenarioValue) (b : Story) → AreChecked b.sent
    → ((m : ℕ) → has_item b.sent.sent (sense_item m) ≡ true → IsChecked s b.sent m)
    → ((id : ProcId) → has_item b.sent.sent (process id) ≡ true → is_some (process_of s id) ≡ true)
    → ends_all s b ≡ true
reset_ends s b checked checks known = ap not (none_any (λ item. is_open_process after item) after.sent closed)
  where
    after : Sent
    after = (story_with_ends (λ c. true) (λ c. true) by_reset 1 s.commands b).sent

    over : (id : ProcId) → has_item b.sent.sent (process id) ≡ true → (q : Bool) → id.sense ≡ q
        → has_item after.over (process id) ≡ true
    over id sent false e =
        let is : id ≡ record { command = id.command; sense = false } = λ i. record {
          command = id.command;
          sense = e i;
        } in
        ap (λ (x : ProcId). has_item after.over (process x)) is
        ∙ command_ended s b id.command (ap (λ (x : ProcId). is_some (process_of s x)) (sym is) ∙ known id sent)
        (ap (λ (x : ProcId). has_item b.sent.sent (process x)) (sym is) ∙ sent)
    over id sent true e =
        let is : id ≡ record { command = id.command; sense = true } = λ i. record {
          command = id.command;
          sense = e i;
        } in
        let c = checks id.command (ap (λ (x : ProcId). has_item b.sent.sent (process x)) (sym is) ∙ sent) in
        ap (λ (x : ProcId). has_item after.over (process x)) is
        ∙ reset_senses s b 0 id.command c.def c.def_is checked c.checked

    closed : (i : Item) → has_item after.sent i ≡ true → is_open_process after i ≡ false
    closed (process id) h = ap (λ (q : Bool). has_item after.sent (process id) && not q) (over id
        (ap (λ (x : List Item). has_item x (process id)) (sym (event_sent s b (Event.Reset 0))) ∙ h) id.sense refl)
        ∙ and_false (has_item after.sent (process id))
    closed (abort j) h = refl
