-- A connection begins: after a selection its process has not arrived, after a reselection it may run (6.1.3, 6.1.4).
use Rattle.trace_laws.proofs
use proofs.Names.{inl, ℕ, ◌≡◌, Bool, true, false, not, ◌&&◌, ◌||◌, ◌∙◌, List, ◌∷◌, Option, Some, None, refl, sym, ap}
use proofs.Names.{subst, true≢false, same_Some, if◌then◌else◌, ProcId, Row, Connection, ScenarioValue, Process}
use proofs.Names.{process_of, without_reply, RowReading, row_reading, Item, process, abort, Sent, has_item, link_of}
use proofs.Names.{Story, story_after_events, aim_of, story_with_restored, story_with_sent, story_after_connection}
use proofs.Names.{story_on_bus, story_by_change, Exchange, no_messages, phase_of, first_plan, Ready, Next, Phase}
use proofs.Names.{RunState, or_start, bus_of, process_item, process_served, run_state_after, array_after_events}
use proofs.Names.{first_exchange, may_negotiate, item_if, messages_if, ready_of, ready_among, seek_of, self_id}
use proofs.Names.{is_served_by, IsItem, is_process, is_abort, IsFirstRow, Begins, some_none, none_some, in_phase}
use proofs.Names.{not_running, IsUntouched, IsAtRest, RunsOpen, PlacedBefore, PlacedIn, PlacedIf, HasPlaces, less_has}
use proofs.{Names.{first_sent, first_served, first_made}, Places.{Next.{apart_shown}, Ready.{MayBeReady, ready_runs}}}
use Rattle.due_model.specs.array_model.proofs.SoundArrays.{id_is}

-- What a selection is for: an item of the scenario that was not sent.
pub record IsSelectedFor (s : ScenarioValue) (k : RunState) (n : Connection) : Type 0 where
  pub item : Item
  pub aim_is : aim_of k.story.aims n.initiator ≡ Some item
  pub unsent : has_item k.story.sent.sent item ≡ false
  pub item_is : IsItem s n.initiator item

-- ---- what is served and sent

sent_with : (b : Story) (n : Connection) (item : Item) → n.reselected ≡ false → aim_of b.aims n.initiator ≡ Some item
    → (story_after_connection b n).sent.sent ≡ item ∷ b.sent.sent
sent_with b n item e f = (λ i. (if e i then record b { link = Some (link_of n None) }
    else story_with_restored (story_with_sent (record b { link = Some (link_of n (f i)) }) (f i)) (f i)).sent.sent)
    ∙ go item
  where
    go : (x : Item) → (story_with_restored (story_with_sent (record b { link = Some (link_of n (Some x)) }) (Some x))
        (Some x)).sent.sent ≡ x ∷ b.sent.sent
    go (process id) = refl
    go (abort m) = refl

sent_first : (s : ScenarioValue) (k : RunState) (row : Row) (n : Connection) (item : Item) → IsFirstRow k row n
    → k.story.link ≡ None → n.reselected ≡ false → aim_of k.story.aims n.initiator ≡ Some item
    → (run_state_after s k row).story.sent.sent ≡ item ∷ k.story.sent.sent
sent_first s k row n item f link e aim =
    let d : RowReading = row_reading k.story.bus_state row in
    (λ i. (story_after_events s (story_by_change s k.story d row) (apart_shown s k row link f.calm i)).sent.sent)
    ∙ ap (λ (q : Bool). (if q then record k.story { link = None }
    else story_on_bus s k.story k.story.bus_state.connection d.next d row).sent.sent) f.calm
    ∙ (λ i. (story_on_bus s k.story (f.connection_is i) (f.next_is i) d row).sent.sent) ∙ sent_with k.story n item e aim

pub shown_first : (s : ScenarioValue) (k : RunState) (row : Row) (n : Connection) (h : HasPlaces s k)
    → IsFirstRow k row n → k.story.link ≡ None → (run_state_after s k row).array ≡ Some h.array
shown_first s k row n h f link = λ i. array_after_events s (h.array_is i) (apart_shown s k row link f.calm i)

pub rest_first : (s : ScenarioValue) (k : RunState) (row : Row) (n : Connection) (h : HasPlaces s k)
    → IsFirstRow k row n → (id : ProcId) → IsAtRest h.array id
rest_first s k row n h f id = h.rests id (ap (λ (y : Option Item). is_served_by y id) (h.unserved f.connection_is))

own_item : (id : ProcId) (items : List Item) → has_item (process id ∷ items) (process id) ≡ true
own_item id items = λ i. self_id id i || has_item items (process id)

-- ---- a selection

of_item : (s : ScenarioValue) (dev : ℕ) (item : Item) → IsItem s dev item → (id : ProcId) → item ≡ process id
    → (c : Process) × (process_of s id ≡ Some c)
of_item s dev (process y) (is_process z c e f) id g = (c, ap (process_of s) (sym (same_process y id g)) ∙ e)
  where
    id_of : Item → ProcId
    id_of (process x) = x
    id_of (abort m) = y

    same_process : (a b : ProcId) → process a ≡ process b → a ≡ b
    same_process a b w = ap id_of w
of_item s dev (abort m) (is_abort x a e f) id g = absurd (true≢false (ap is_it g))
  where
    is_it : Item → Bool
    is_it (abort z) = true
    is_it (process z) = false

pub selected_on : (s : ScenarioValue) (k : RunState) (row : Row) (n : Connection) (h : HasPlaces s k) → Begins s k row n
    → k.story.link ≡ None → n.reselected ≡ false → IsSelectedFor s k n → HasPlaces s (run_state_after s k row)
selected_on s k row n h b link e a = record {
  array = h.array;
  array_is = shown_first s k row n h f link;
  sound = h.sound;
  within = h.within;
  unsent = λ id z. h.unsent id
      (less_has a.item (process id) k.story.sent.sent (ap (λ (x : List Item). has_item x (process id)) (sym sent) ∙ z));
  rests = λ id z. rest_first s k row n h f id;
  reset = λ z id. rest_first s k row n h f id;
  unserved = λ z. some_none n (sym f.next_is ∙ z);
  sent = λ id z. ap (λ (x : List Item). has_item x (process id)) sent
      ∙ ap (λ (x : Item). has_item (x ∷ k.story.sent.sent) (process id)) (item_is id z) ∙ own_item id k.story.sent.sent;
  of_scenario = λ id z. of_item s n.initiator a.item a.item_is id (item_is id z);
  placed = λ m x y c z. subst (λ (q : Bool). PlacedIf q h.array c j.exchange.plan j.handshakes (bus_of j).atn
      (phase_of (bus_of j))) (sym (ap (λ (x : Exchange). x.begun) (first_made s k row n f) ∙ e)) (new c z);
}
  where
    j : RunState
    j = run_state_after s k row

    f : IsFirstRow k row n
    f = b.first

    served : j.served ≡ Some a.item
    served = first_served s k row n f
        ∙ ap (λ (q : Bool). if q then item_if (ready_of s k n.target) else aim_of k.story.aims n.initiator) e ∙ a.aim_is

    sent : j.story.sent.sent ≡ a.item ∷ k.story.sent.sent
    sent = sent_first s k row n a.item f link e a.aim_is

    item_is : (id : ProcId) → j.served ≡ Some (process id) → a.item ≡ process id
    item_is id z = same_Some a.item (process id) (sym served ∙ z)

    new : (c : Process) → process_served s j ≡ Some c → IsUntouched h.array c.id
    new c z = go a.item refl (ap (process_item s) (sym served) ∙ z)
      where
        go : (x : Item) → a.item ≡ x → process_item s (Some x) ≡ Some c → IsUntouched h.array c.id
        go (process id) y w = subst (λ (v : ProcId). IsUntouched h.array v) (sym (id_is s id c w))
            (h.unsent id (ap (λ (v : Item). has_item k.story.sent.sent v) (sym y) ∙ a.unsent))
        go (abort m) y w = none_some c w

-- ---- a reselection

pub reselected_on : (s : ScenarioValue) (k : RunState) (row : Row) (n : Connection) (h : HasPlaces s k)
    → Begins s k row n → k.story.link ≡ None → n.reselected ≡ true → HasPlaces s (run_state_after s k row)
reselected_on s k row n h b link e = record {
  array = h.array;
  array_is = shown_first s k row n h f link;
  sound = h.sound;
  within = h.within;
  unsent = λ id z. h.unsent id (ap (λ (x : List Item). has_item x (process id)) (sym sent) ∙ z);
  rests = λ id z. rest_first s k row n h f id;
  reset = λ z id. rest_first s k row n h f id;
  unserved = λ z. some_none n (sym f.next_is ∙ z);
  sent = λ id z. ap (λ (x : List Item). has_item x (process id)) sent ∙ ap (λ (x : Item). has_item k.story.sent.sent x)
      (sym (same_Some (process r.process.id) (process id) (sym served ∙ z)))
      ∙ was_sent (has_item k.story.sent.sent (process r.process.id)) refl;
  of_scenario = λ id z. (
    r.process,
    ap (λ (x : Item). process_of s (id_of x)) (sym (same_Some (process r.process.id) (process id) (sym served ∙ z)))
        ∙ ready.process_is,
  );
  placed = λ m x y c z. subst (λ (q : Bool). PlacedIf q h.array c j.exchange.plan j.handshakes
      (bus_of j).atn (phase_of (bus_of j))) (sym (ap (λ (x : Exchange). x.begun) made ∙ e))
      (subst (λ (q : Phase). PlacedIn h.array c j.exchange.plan j.handshakes (bus_of j).atn q)
      (sym phase) (inl (subst (λ (q : Next). PlacedBefore h.array c j.exchange.plan.messages q) (sym next)
      (subst (λ (q : Process). RunsOpen h.array q) (is c z) ready.runs))));
}
  where
    j : RunState
    j = run_state_after s k row

    f : IsFirstRow k row n
    f = b.first

    r : Ready
    r = (b.reselects e).ready

    id_of : Item → ProcId
    id_of (process x) = x
    id_of (abort m) = r.process.id

    made : j.exchange ≡ first_exchange s k n (aim_of k.story.aims n.initiator)
    made = first_made s k row n f

    served : j.served ≡ Some (process r.process.id)
    served = first_served s k row n f
        ∙ ap (λ (q : Bool). if q then item_if (ready_of s k n.target) else aim_of k.story.aims n.initiator) e
        ∙ ap item_if (b.reselects e).ready_is

    sent : j.story.sent.sent ≡ k.story.sent.sent
    sent = ap (λ (x : Sent). x.sent) (first_sent s k row n f link e)

    among : ready_among h.array k.current_since (seek_of s.targets n.target) n.target ≡ Some r
    among = (λ i. ready_among (or_start s (sym h.array_is i)) k.current_since (seek_of s.targets n.target) n.target)
        ∙ (b.reselects e).ready_is

    ready : MayBeReady s h.array r
    ready = ready_runs s h.array k.current_since (seek_of s.targets n.target) n.target r h.sound
        (rest_first s k row n h f r.process.id) among

    was_sent : (q : Bool) → has_item k.story.sent.sent (process r.process.id) ≡ q
        → has_item k.story.sent.sent (process r.process.id) ≡ true
    was_sent true z = z
    was_sent false z = some_none (without_reply r.process)
        (sym ready.runs.runs.running_is ∙ not_running h.array r.process.id (h.unsent r.process.id z).away)

    phase : phase_of (bus_of j) ≡ Phase.MessageIn
    phase = in_phase (bus_of j) (b.names e)

    next : j.exchange.plan.next ≡ Next.GoOn
    next = ap (λ (x : Exchange). x.plan.next) made
        ∙ ap (λ (q : Bool). (first_plan q (not q && may_negotiate k n (aim_of k.story.aims n.initiator))
        (if q then messages_if (ready_of s k n.target) else no_messages)).next) e

    is : (c : Process) → process_served s j ≡ Some c → r.process ≡ c
    is c z = same_Some r.process c (sym ready.process_is ∙ ap (process_item s) (sym served) ∙ z)
