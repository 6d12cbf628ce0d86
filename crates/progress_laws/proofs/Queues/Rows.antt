-- Row by row: each command that was sent, is not over and has no connection stands in a queue, where one does as its
-- connection ends.
use Rattle.progress_laws.proofs
use proofs.Names.{inl, inr, ℕ, zero, suc, ◌≡◌, ◌+◌, Bool, true, false, not, ◌&&◌, ◌∙◌, List, [], ◌∷◌, Option, Some}
use proofs.Names.{None, refl, sym, ap, subst, arith, cases_Bool, same_Some, if◌then◌else◌, is_none, wrong, and_first}
use proofs.Names.{and_second, AbortKind, Event, ProcId, falls, Row, Connection, Call, Calling, ScenarioValue, CmdDef}
use proofs.Names.{none_at, step_sound, array_step, Process, command_at, process_by, process_if, process_of, same_id}
use proofs.Names.{HasSeats, IsSound, Array, restored_sent, event_sent, RowReading, row_reading, row_events_by, Item}
use proofs.Names.{Sent, abort, command_item, has_item, is_open, process, command_id, link_of, Story, by_abort, by_reset}
use proofs.Names.{is_aborted, is_sense_stopped, story_after_event, story_after_events, aim_of, is_arbitration_entry}
use proofs.Names.{story_with_aim, story_without_answer, story_with_try, story_after_calling_by, story_after_calling}
use proofs.Names.{story_on_free_bus, story_with_restored, story_with_sent, story_on_bus, story_by_change, RunState}
use proofs.Names.{array_of, or_start, array_after_events, item_if, run_state, served_after, ready_of, id_is}
use proofs.Names.{is_served_by, none_some, is_dropped, Items, is_queued, item_is, opened, Grows, ends_over, events_grow}
use proofs.Names.{lost_over, not_grown, free_keeps, more_has, self_item, connection_sent, AreQueued}
use proofs.Queues.Steps.{IfQueued, IsNotEnded, ends_close, step_stays}

-- ---- what is open after an event was not ended by it

pub open_over : {A : Type 0} (b : Sent) (m : ℕ) → is_open b m ≡ true → has_item b.over (command_item m) ≡ true → A
open_over b m e o =
    wrong (sym (and_second (has_item b.sent (command_item m)) (not (has_item b.over (command_item m))) e) ∙ ap not o)

was_sent : (s : ScenarioValue) (b : Story) (event : Event) (m : ℕ) → is_open (story_after_event s b event).sent m ≡ true
    → has_item b.sent.sent (command_item m) ≡ true
was_sent s b event m e = ap (λ (x : List Item). has_item x (command_item m)) (sym (event_sent s b event))
    ∙ and_first (has_item (story_after_event s b event).sent.sent (command_item m))
    (not (has_item (story_after_event s b event).sent.over (command_item m))) e

one_less : (m : ℕ) → suc (0 + m) ≡ suc m
one_less m = omega arith

aborted_over : (s : ScenarioValue) (b : Story) (i t m : ℕ) (what : AbortKind) (l : ℕ) (c : CmdDef)
    → command_at s.commands l ≡ Some c → is_aborted i t m what c ≡ true → has_item b.sent.sent (command_item l) ≡ true
    → has_item (story_after_event s b (Event.Aborted i t m what)).sent.over (command_item l) ≡ true
aborted_over s b i t m what zero c at d sent = none_some c (sym (none_at s.commands) ∙ at)
aborted_over s b i t m what (suc l) c at d sent =
    ap (λ (w : ℕ). has_item (story_after_event s b (Event.Aborted i t m what)).sent.over (command_item w))
    (sym (one_less l))
    ∙ ends_close (is_aborted i t m what) (is_sense_stopped i t m what) by_abort 0 l s.commands b c at d
    (ap (λ (w : ℕ). has_item b.sent.sent (command_item w)) (one_less l) ∙ sent)

reset_over : (s : ScenarioValue) (b : Story) (dev m : ℕ) (c : CmdDef)
    → command_at s.commands m ≡ Some c → has_item b.sent.sent (command_item m) ≡ true
    → has_item (story_after_event s b (Event.Reset dev)).sent.over (command_item m) ≡ true
reset_over s b dev zero c at sent = none_some c (sym (none_at s.commands) ∙ at)
reset_over s b dev (suc m) c at sent =
    ap (λ (i : ℕ). has_item (story_after_event s b (Event.Reset dev)).sent.over (command_item i)) (sym (one_less m))
    ∙ ends_close (λ x. true) (λ x. true) by_reset 0 m s.commands b c at refl
    (ap (λ (i : ℕ). has_item b.sent.sent (command_item i)) (one_less m) ∙ sent)

aborts_same : (s : ScenarioValue) (i t m : ℕ) (what : AbortKind) (l : ℕ) (c : CmdDef)
    → is_dropped i t m what (process_by s (command_id l) c) ≡ is_aborted i t m what c
aborts_same s i t m AbortKind.All l c = refl
aborts_same s i t m _ l c = refl

pub not_ended : (s : ScenarioValue) (b : Story) (event : Event) (l : ℕ) (c : CmdDef) → command_at s.commands l ≡ Some c
    → is_open (story_after_event s b event).sent l ≡ true → IsNotEnded s event (command_id l)
not_ended s b (Event.End id status) l c at e = go (same_id id (command_id l)) refl
  where
    go : (q : Bool) → same_id id (command_id l) ≡ q → same_id id (command_id l) ≡ false
    go false z = z
    go true z = open_over (story_after_event s b (Event.End id status)).sent l e
        (ap (λ (w : ProcId). has_item (story_after_event s b (Event.End id status)).sent.over (process w))
        (sym (id_is id (command_id l) z)) ∙ ends_over s b id status)
not_ended s b (Event.Lost id) l c at e = go (same_id id (command_id l)) refl
  where
    go : (q : Bool) → same_id id (command_id l) ≡ q → same_id id (command_id l) ≡ false
    go false z = z
    go true z = open_over (story_after_event s b (Event.Lost id)).sent l e
        (ap (λ (w : ProcId). has_item (story_after_event s b (Event.Lost id)).sent.over (process w))
        (sym (id_is id (command_id l) z)) ∙ lost_over s b id)
not_ended s b (Event.Aborted i t m what) l c at e = λ x own same. go x own same (is_dropped i t m what x) refl
  where
    go : (x : Process) → process_of s x.id ≡ Some x → same_id x.id (command_id l) ≡ true
        → (q : Bool) → is_dropped i t m what x ≡ q → is_dropped i t m what x ≡ false
    go x own same false z = z
    go x own same true z =
        let is : process_by s (command_id l) c ≡ x = same_Some (process_by s (command_id l) c) x
        (sym (ap (process_of s) (id_is x.id (command_id l) same) ∙ ap (process_if s (command_id l)) at) ∙ own) in
        open_over (story_after_event s b (Event.Aborted i t m what)).sent l e
        (aborted_over s b i t m what l c at (sym (aborts_same s i t m what l c) ∙ ap (is_dropped i t m what) is ∙ z)
        (was_sent s b (Event.Aborted i t m what) l e))
not_ended s b (Event.Reset dev) l c at e = open_over (story_after_event s b (Event.Reset dev)).sent l e
    (reset_over s b dev l c at (was_sent s b (Event.Reset dev) l e))
not_ended s b _ l c at e = tt

-- ---- all events of a row

pub fewer_open : (a b : Sent) (m : ℕ) → b.sent ≡ a.sent
    → ((i : Item) → has_item a.over i ≡ true → has_item b.over i ≡ true) → is_open b m ≡ true → is_open a m ≡ true
fewer_open a b m same more e =
    let sent = and_first (has_item b.sent (command_item m)) (not (has_item b.over (command_item m))) e in
    let over = and_second (has_item b.sent (command_item m)) (not (has_item b.over (command_item m))) e in
    λ i. (ap (λ (x : List Item). has_item x (command_item m)) (sym same) ∙ sent) i
    && not_grown (has_item a.over (command_item m)) (has_item b.over (command_item m)) (more (command_item m)) over i

pub record Kept (s : ScenarioValue) (id : ProcId) (o : Option Array) : Type 0 where
  pub sound : (a : Array) → o ≡ Some a → IsSound s a
  pub queued : IfQueued id o

pub events_stay : (s : ScenarioValue) (b : Story) (o : Option Array) (shown : List Event) (m : ℕ) (c : CmdDef)
    → HasSeats s → command_at s.commands m ≡ Some c → is_open (story_after_events s b shown).sent m ≡ true
    → Kept s (command_id m) o → Kept s (command_id m) (array_after_events s o shown)
events_stay s b o [] m c seats at e f = f
events_stay s b o (event ∷ shown) m c seats at e f =
    go (array_after_events s o shown) (events_stay s b o shown m c seats at before f)
  where
    g : Grows (story_after_events s b shown).sent (story_after_event s (story_after_events s b shown) event).sent
    g = events_grow s (story_after_events s b shown) (event ∷ [])

    before : is_open (story_after_events s b shown).sent m ≡ true
    before = fewer_open (story_after_events s b shown).sent
        (story_after_event s (story_after_events s b shown) event).sent m g.sent g.over e

    go : (x : Option Array) → Kept s (command_id m) x → Kept s (command_id m) (array_step s event x)
    go None h = record { sound = λ a z. none_some a z; queued = tt }
    go (Some a) h = record {
      sound = λ y z. step_sound s a y event seats (h.sound a refl) z;
      queued = step_stays s a event (command_id m) (h.sound a refl).units
          (not_ended s (story_after_events s b shown) event m c at e) h.queued;
    }

-- ---- on the free bus

pub tried_over : (s : ScenarioValue) (b : Story) (dev : ℕ) (item : Option Item) (i : Item)
    → has_item b.sent.over i ≡ true → has_item (story_with_try s b dev item).sent.over i ≡ true
tried_over s b dev None i h = h
tried_over s b dev (Some item) i h = go _ item
  where
    go : (q : Bool) (x : Item)
        → has_item (if q then story_without_answer (record b { sent = record b.sent { tries = item ∷ b.sent.tries } }) x
        else record b { sent = record b.sent { tries = item ∷ b.sent.tries } }).sent.over i ≡ true
    go true (process id) = more_has (process id) i b.sent.over h
    go true (abort k) = more_has (abort k) i b.sent.over h
    go false x = h

pub called_over : (s : ScenarioValue) (b : Story) (call : Option Call) (i : Item) → has_item b.sent.over i ≡ true
    → has_item (story_after_calling s b call).sent.over i ≡ true
called_over s b None i h = h
called_over s b (Some c) i h = by c.calling
  where
    by : (g : Option Calling) → has_item (story_after_calling_by s b c.caller g).sent.over i ≡ true
    by None = h
    by (Some g) =
        elim (cases_Bool (is_none g.answered && not g.reselects)) [
          | inl e ↦ rw e (tried_over s b c.caller (aim_of b.aims c.caller) i h)
          | inr e ↦ rw e h
        ]

pub free_over : (s : ScenarioValue) (b : Story) (d : RowReading) (row : Row) (i : Item) → has_item b.sent.over i ≡ true
    → has_item (story_on_free_bus s b d row).sent.over i ≡ true
free_over s b d row i h = go (is_arbitration_entry b d) (falls d.change.before.sel d.change.after.sel)
  where
    go : (q r : Bool) → has_item
        (if q then story_with_aim s b row else if r then story_after_calling s b b.bus_state.call else b).sent.over i
        ≡ true
    go true r = h
    go false true = called_over s b b.bus_state.call i h
    go false false = h

-- ---- a command that is open after a row was open before it, or is the one for which a connection begins

pub data WasOpen (k : RunState) (d : RowReading) (i : ℕ) : Type 0 where
  before : is_open k.story.sent i ≡ true → WasOpen k d i
  begins : (m : Connection) → k.story.bus_state.connection ≡ None → d.next ≡ Some m → m.reselected ≡ false
      → aim_of k.story.aims m.initiator ≡ Some (command_item i) → WasOpen k d i

pub open_before : (s : ScenarioValue) (k : RunState) (d : RowReading) (row : Row) (w : ℕ)
    → is_open (story_by_change s k.story d row).sent w ≡ true → WasOpen k d w
open_before s k d row w e = by_rst d.change.after.rst e
  where
    b : Story
    b = k.story

    begun : (m : Connection) → k.story.bus_state.connection ≡ None → d.next ≡ Some m
        → (q : Bool) → m.reselected ≡ q → (o : Option Item) → aim_of b.aims m.initiator ≡ o
        → is_open (if q then record b { link = Some (link_of m None) }
        else story_with_restored (story_with_sent (record b { link = Some (link_of m o) }) o) o).sent w ≡ true
        → WasOpen k d w
    begun m x y true z o f h = before h
    begun m x y false z None f h = before h
    begun m x y false z (Some i) f h = elim (opened b.sent i w (ap (λ (t : Sent). is_open t w)
        (sym (restored_sent (story_with_sent (record b { link = Some (link_of m (Some i)) }) (Some i)) (Some i)))
        ∙ h)) [
          | inl g ↦ begins m x y z (f ∙ ap (λ (t : Item). Some t) g)
          | inr g ↦ before g
        ]

    by : (x y : Option Connection) → k.story.bus_state.connection ≡ x → d.next ≡ y
        → is_open (story_on_bus s b x y d row).sent w ≡ true → WasOpen k d w
    by None None f g h = before (fewer_open b.sent (story_on_free_bus s b d row).sent w (free_keeps s b d row).2
        (λ i z. free_over s b d row i z) h)
    by None (Some m) f g h = begun m f g m.reselected refl (aim_of b.aims m.initiator) refl h
    by (Some l) None f g h = before h
    by (Some l) (Some m) f g h = before (ap (λ (x : Sent). is_open x w) (sym (connection_sent s b b.link d row)) ∙ h)

    by_rst : (q : Bool)
        → is_open (if q then record b { link = None } else story_on_bus s b b.bus_state.connection d.next d row).sent w
        ≡ true → WasOpen k d w
    by_rst true h = before h
    by_rst false h = by b.bus_state.connection d.next refl refl h

-- ---- a row

-- A command whose connection ends with the row, and which is open after it, stands in a queue.
abbrev pub IsLeftQueued : ScenarioValue → List Row → Row → Type 0
IsLeftQueued s p row = (m : Connection) (i : ℕ) (c : CmdDef)
    → command_at s.commands i ≡ Some c → (run_state s p).story.bus_state.connection ≡ Some m
    → (row_reading (run_state s p).story.bus_state row).next ≡ None
    → (run_state s p).served ≡ Some (command_item i) → is_open (run_state s (row ∷ p)).story.sent i ≡ true
    → is_queued (array_of s (run_state s p)).units (command_id i) ≡ true

pub record HasArray (s : ScenarioValue) (k : RunState) : Type 0 where
  pub array : Array
  pub array_is : k.array ≡ Some array
  pub sound : IsSound s array

pub queued_next : (s : ScenarioValue) (p : List Row) (row : Row) → HasSeats s → Items s (run_state s p)
    → HasArray s (run_state s p) → HasArray s (run_state s (row ∷ p)) → IsLeftQueued s p row
    → AreQueued s (run_state s p) → AreQueued s (run_state s (row ∷ p))
queued_next s p row seats items had has left h n c at opens away = elim (open_before s k d row n changed) [
  | before was ↦ unmoved was (is_served_by k.served (command_id n)) refl
  | begins m x y z f ↦ begun m x y z f
]
  where
    k : RunState
    k = run_state s p

    d : RowReading
    d = row_reading k.story.bus_state row

    shown : List Event
    shown = row_events_by s k.story d row

    changed : is_open (story_by_change s k.story d row).sent n ≡ true
    changed =
        let g = events_grow s (story_by_change s k.story d row) shown in
        fewer_open (story_by_change s k.story d row).sent
        (story_after_events s (story_by_change s k.story d row) shown).sent n g.sent g.over opens

    array_had : (a : Array) → k.array ≡ Some a → IsSound s a
    array_had a e = subst (λ (x : Array). IsSound s x) (same_Some had.array a (sym had.array_is ∙ e)) had.sound

    stays : is_queued (array_of s k).units (command_id n) ≡ true
        → is_queued (array_of s (run_state s (row ∷ p))).units (command_id n) ≡ true
    stays q =
        let was : Kept s (command_id n) k.array = record {
          sound = array_had;
          queued = subst (IfQueued (command_id n)) (sym had.array_is)
              (ap (λ (o : Option Array). is_queued (or_start s o).units (command_id n)) (sym had.array_is) ∙ q);
        } in
        let is = events_stay s (story_by_change s k.story d row) k.array shown n c seats at opens was in
        ap (λ (o : Option Array). is_queued (or_start s o).units (command_id n)) has.array_is
        ∙ subst (IfQueued (command_id n)) has.array_is is.queued

    away_from : (o : Option Item) → o ≡ Some (command_item n) → is_served_by o (command_id n) ≡ true
    away_from o e = ap (λ (x : Option Item). is_served_by x (command_id n)) e ∙ self_item (command_item n)

    begun : (m : Connection) → k.story.bus_state.connection ≡ None → d.next ≡ Some m
        → m.reselected ≡ false → aim_of k.story.aims m.initiator ≡ Some (command_item n)
        → is_queued (array_of s (run_state s (row ∷ p))).units (command_id n) ≡ true
    begun m x y z f = wrong
        (sym (away_from (served_after s k k.story.bus_state.connection d.next) ((λ i. served_after s k (x i) (y i))
        ∙ ap (λ (q : Bool). if q then item_if (ready_of s k m.target) else aim_of k.story.aims m.initiator) z ∙ f))
        ∙ away)

    served_is : (o : Option Item) → k.served ≡ o → is_served_by o (command_id n) ≡ true
        → k.served ≡ Some (command_item n)
    served_is None e z = wrong (sym z)
    served_is (Some i) e z = e ∙ ap (λ (x : Item). Some x) (sym (item_is (command_item n) i z))

    unmoved : is_open k.story.sent n ≡ true → (q : Bool) → is_served_by k.served (command_id n) ≡ q
        → is_queued (array_of s (run_state s (row ∷ p))).units (command_id n) ≡ true
    unmoved was false z = stays (h n c at was z)
    unmoved was true z = by k.story.bus_state.connection d.next refl refl
      where
        mine : k.served ≡ Some (command_item n)
        mine = served_is k.served refl z

        no_item : {A : Type 0} → (let o : Option Item = None in o) ≡ Some (command_item n) → A
        no_item e = absurd cc

        by : (x y : Option Connection) → k.story.bus_state.connection ≡ x → d.next ≡ y
            → is_queued (array_of s (run_state s (row ∷ p))).units (command_id n) ≡ true
        by None y f g = no_item (sym (items.apart f).1 ∙ mine)
        by (Some m) None f g = stays (left m n c at f g mine opens)
        by (Some m) (Some l) f g = wrong (sym (away_from (served_after s k k.story.bus_state.connection d.next)
            ((λ i. served_after s k (f i) (g i)) ∙ mine)) ∙ away)
