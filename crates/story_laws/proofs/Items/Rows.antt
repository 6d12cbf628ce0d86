-- What holds of the items after any rows of a prompt trace, and that each kind of row keeps it.
use Rattle.story_laws.proofs
use proofs.Names.{ℕ, ◌≡◌, Bool, true, false, not, ◌&&◌, ◌==◌, ◌∙◌, List, [], ◌∷◌, Option, Some, None, refl, sym, ap}
use proofs.Names.{subst, same_Some, list_any, if◌then◌else◌, is_some, wrong, wrong', and_false, Event, ProcId, rises}
use proofs.Names.{LineSet, changes_phase, is_command, receiver_in, Row, Change, Connection, ScenarioValue, AbortDef}
use proofs.Names.{array_after, Process, same_id, events_link, RowReading, row_reading, CarriedBytes, is_whole_block}
use proofs.Names.{is_status_phase, carried_if, queue_event, queue_events, is_refuse, status_event, status_events}
use proofs.Names.{phase_events, is_completion, end_events, item_loss_events, abort_line_at, abort_line_events}
use proofs.Names.{item_abort_events, bus_free_events, connection_events, link_events, row_events_by, Item, process}
use proofs.Names.{abort, has_item, sense_item, Sent, Link, LastMessage, plain, complete, disconnect, abortive}
use proofs.Names.{is_open_sense, Story, story_after_events, story_on_free_bus, story_on_bus, story_by_change}
use proofs.Names.{progress_in, RunState, bus_of, or_start, array_of, process_item, process_served, run_state_after}
use proofs.Names.{array_after_events, served_after, leaving_of, process_id, reading_is, id_is, IsRowIn, reading_in}
use proofs.{Names.{none_some, by_bool, UnitsP, AreChecked, IsQueued, no_progress, Items, Talks}, Items.Over.{Grows}}
use proofs.Items.Over.{grows_same, grows_on, events_grow, fewer_senses, clash_grows, events_checked, reset_senses}
use proofs.Items.{Over.{lost_over}, Row.{row_shows, row_sent, over_after}, Sent.{sent_grows, only_on, carried_of_item}}
use proofs.Items.Steps.{Admits, queued_on, queued_sent, GivesUp, checked_up, progress_kept}

-- ---- any row

unsent_before : (s : ScenarioValue) (k : RunState) (row : Row) (i : Item)
    → has_item (run_state_after s k row).story.sent.sent i ≡ false → has_item k.story.sent.sent i ≡ false
unsent_before s k row i e =
    by_bool (has_item k.story.sent.sent i)
    (λ z. wrong (sym (sent_grows s k row i z) ∙ e))
    (λ z. z)

pub served_item : (s : ScenarioValue) (o : Option Item) (c : Process) → process_item s o ≡ Some c
    → o ≡ Some (process c.id)
served_item s None c e = no_process e
  where
    no_process : {A : Type 0} → (let a : Option Process = None in a) ≡ Some c → A
    no_process z = absurd cc
served_item s (Some (process id)) c e = ap (λ (x : ProcId). Some (process x)) (sym (process_id s id c e))
served_item s (Some (abort k)) c e = no_process e
  where
    no_process : {A : Type 0} → (let a : Option Process = None in a) ≡ Some c → A
    no_process z = absurd cc

pub progress_on : (s : ScenarioValue) (k : RunState) (row : Row) → Items s k
    → (id : ProcId) → has_item (run_state_after s k row).story.sent.sent (process id) ≡ false
    → progress_in (run_state_after s k row).progress id ≡ no_progress id
progress_on s k row h id e = progress_kept s k (row_reading k.story.bus_state row) k.story.bus_state.connection
    (row_reading k.story.bus_state row).next (leaving_of s k k.story.bus_state.connection) id other
    ∙ h.progress id was
  where
    was : has_item k.story.sent.sent (process id) ≡ false
    was = unsent_before s k row (process id) e

    other : (c : Process) → process_served s k ≡ Some c → same_id c.id id ≡ false
    other c f = by_bool (same_id c.id id) (λ z. wrong (sym (h.served (process c.id) (served_item s k.served c f))
        ∙ ap (λ (x : ProcId). has_item k.story.sent.sent (process x)) (id_is c.id id z) ∙ was)) (λ z. z)

-- What a row that sends nothing leaves.
pub record Left (s : ScenarioValue) (k j : RunState) : Type 0 where
  pub apart : j.story.bus_state.connection ≡ None → (j.story.link ≡ None) × (j.served ≡ None)
  pub grows : Grows k.story.sent j.story.sent
  pub checked : AreChecked j.story.sent
  pub queued : UnitsP (IsQueued s j.story.sent) (array_of s j).units
  pub served : (i : Item) → j.served ≡ Some i → k.served ≡ Some i
  pub senses : (n : ℕ) → is_open_sense k.story.sent n ≡ true → is_open_sense j.story.sent n ≡ true
      → k.served ≡ Some (sense_item n) → (bus_of k).rst ≡ false
      → (j.served ≡ Some (sense_item n)) × ((bus_of j).rst ≡ false)
  pub talks : (n : Connection) → j.story.bus_state.connection ≡ Some n → (bus_of j).rst ≡ false → Talks s j n

pub items_left : (s : ScenarioValue) (k : RunState) (row : Row) → Items s k → Left s k (run_state_after s k row)
    → Items s (run_state_after s k row)
items_left s k row h w = record {
  apart = w.apart;
  only = only_on s k row h.only;
  clash = clash_grows s k.story.sent (run_state_after s k row).story.sent w.grows h.clash;
  checked = w.checked;
  checks = λ n e.
      let c = h.checks n (ap (λ (x : List Item). has_item x (sense_item n)) (sym w.grows.sent) ∙ e) in
      record { def = c.def; def_is = c.def_is; checked = w.grows.checks n c.checked };
  queued = w.queued;
  served = λ i e. sent_grows s k row i (h.served i (w.served i e));
  senses = λ n e.
      let was = fewer_senses k.story.sent (run_state_after s k row).story.sent w.grows n e in
      let o = h.senses n was in
      w.senses n was e o.0 o.1;
  progress = progress_on s k row h;
  talks = w.talks;
}

-- The story and the array after a row, by its events.
by_events : (s : ScenarioValue) (k : RunState) (changed : Story) (shown : List Event)
    → changed.sent ≡ k.story.sent → Admits s changed shown → UnitsP (IsQueued s k.story.sent) (array_of s k).units
    → UnitsP (IsQueued s (story_after_events s changed shown).sent)
    (or_start s (array_after_events s k.array shown)).units
by_events s k changed shown e a h =
    queued_on s changed k.array shown a (subst (λ (x : Sent). UnitsP (IsQueued s x) (array_of s k).units) (sym e) h)

grown_by : (s : ScenarioValue) (k : RunState) (changed : Story) (shown : List Event) → changed.sent ≡ k.story.sent
    → Grows k.story.sent (story_after_events s changed shown).sent
grown_by s k changed shown e = grows_on k.story.sent changed.sent (story_after_events s changed shown).sent
    (grows_same k.story.sent changed.sent e) (events_grow s changed shown)

checked_by : (s : ScenarioValue) (k : RunState) (changed : Story) (shown : List Event) → changed.sent ≡ k.story.sent
    → AreChecked k.story.sent → AreChecked (story_after_events s changed shown).sent
checked_by s k changed shown e h = events_checked s changed shown (subst (λ (x : Sent). AreChecked x) (sym e) h)

-- ---- under RST

pub open_over : {A : Type 0} (b : Sent) (m : ℕ) → is_open_sense b m ≡ true → has_item b.over (sense_item m) ≡ true → A
open_over {A = A} b m e f = go (has_item b.sent (sense_item m)) (λ i. sym e i)
  where
    go : (q : Bool) → true ≡ (has_item b.sent (sense_item m) && not (has_item b.over (sense_item m))) → A
    go q z = wrong (z ∙ (λ i. has_item b.sent (sense_item m) && not (f i)) ∙ and_false (has_item b.sent (sense_item m)))

pub items_reset : (s : ScenarioValue) (k : RunState) (row : Row) → Items s k
    → (row_reading k.story.bus_state row).change.after.rst ≡ true
    → (k.story.bus_state.connection ≡ None → (row_reading k.story.bus_state row).next ≡ None) → ((bus_of k).rst ≡ false
    → rises (row_reading k.story.bus_state row).change.own.rst (row_reading k.story.bus_state row).change.next.rst
    ≡ true) → Items s (run_state_after s k row)
items_reset s k row h on none up = items_left s k row h (record {
  apart = λ e. (link, unserved k.story.bus_state.connection refl e);
  grows = grown_by s k changed shown same;
  checked = checked_by s k changed shown same h.checked;
  queued = by_events s k changed shown same (admits (rises d.change.own.rst d.change.next.rst)) h.queued;
  served = λ i e. kept k.story.bus_state.connection refl i e;
  senses = λ n was e sv off. closed n e was off;
  talks = λ n e off. wrong (sym on ∙ off);
})
  where
    d : RowReading
    d = row_reading k.story.bus_state row

    j : RunState
    j = run_state_after s k row

    changed : Story
    changed = story_by_change s k.story d row

    shown : List Event
    shown = row_events_by s k.story d row

    is : shown ≡ (if rises d.change.own.rst d.change.next.rst then Event.Reset row.dev ∷ [] else [])
    is = ap (λ (q : Bool). if q then (if rises d.change.own.rst d.change.next.rst then Event.Reset row.dev ∷ [] else [])
        else link_events s k.story k.story.link d) on

    same : changed.sent ≡ k.story.sent
    same = ap (λ (q : Bool). (if q then record k.story { link = None }
        else story_on_bus s k.story k.story.bus_state.connection d.next d row).sent) on

    link : j.story.link ≡ None
    link = events_link s changed shown ∙ ap (λ (q : Bool). (if q then record k.story { link = None }
        else story_on_bus s k.story k.story.bus_state.connection d.next d row).link) on

    admits : (q : Bool) → Admits s changed shown
    admits q = subst (λ (x : List Event). Admits s changed x) (sym is) (by (rises d.change.own.rst d.change.next.rst))
      where
        by : (r : Bool) → Admits s changed (if r then Event.Reset row.dev ∷ [] else [])
        by true = (λ id e. absurd cc, tt)
        by false = tt

    kept : (o : Option Connection) → k.story.bus_state.connection ≡ o → (i : Item) → j.served ≡ Some i
        → k.served ≡ Some i
    kept None e i f = sym (λ x. served_after s k (e x) (none e x)) ∙ f
    kept (Some m) e i f = by d.next refl (sym (ap (λ (x : Option Connection). served_after s k x d.next) e) ∙ f)
      where
        by : (o : Option Connection) → d.next ≡ o → served_after s k (Some m) o ≡ Some i → k.served ≡ Some i
        by None g z = none_some i z
        by (Some n) g z = z

    unserved : (o : Option Connection) → k.story.bus_state.connection ≡ o → d.next ≡ None → j.served ≡ None
    unserved None e f = (λ x. served_after s k (e x) (f x)) ∙ (h.apart e).1
    unserved (Some m) e f = λ x. served_after s k (e x) (f x)

    closed : {A : Type 0} (n : ℕ) → is_open_sense j.story.sent n ≡ true → is_open_sense k.story.sent n ≡ true
        → (bus_of k).rst ≡ false → A
    closed n e was off =
        let sent = sent_of k.story.sent n was in
        let c = h.checks n sent in
        open_over j.story.sent n e
        (ap (λ (x : List Event). has_item (story_after_events s changed x).sent.over (sense_item n))
        (is ∙ ap (λ (q : Bool). if q then Event.Reset row.dev ∷ [] else []) (up off))
        ∙ reset_senses s changed row.dev n c.def c.def_is (subst (λ (x : Sent). AreChecked x) (sym same) h.checked)
        (ap (λ (x : Sent). list_any (λ m. m == n) x.checks) same ∙ c.checked))
      where
        sent_of : (b : Sent) (m : ℕ) → is_open_sense b m ≡ true → has_item b.sent (sense_item m) ≡ true
        sent_of b m z = go (has_item b.sent (sense_item m)) z
          where
            go : (q : Bool) → (q && not (has_item b.over (sense_item m))) ≡ true → q ≡ true
            go true y = refl
            go false y = wrong' y

-- ---- outside a connection

pub items_apart : (s : ScenarioValue) (k : RunState) (row : Row) → Items s k
    → (row_reading k.story.bus_state row).change.after.rst ≡ false
    → k.story.bus_state.connection ≡ None → (row_reading k.story.bus_state row).next ≡ None
    → GivesUp k.story.sent (story_on_free_bus s k.story (row_reading k.story.bus_state row) row).sent
    → (story_on_free_bus s k.story (row_reading k.story.bus_state row) row).link ≡ k.story.link
    → Items s (run_state_after s k row)
items_apart s k row h off con next up keeps = items_left s k row h (record {
  apart = λ e. (link, (λ x. served_after s k (con x) (next x)) ∙ (h.apart con).1);
  grows = subst (λ (x : Sent). Grows k.story.sent x) (sym sent) up.grows;
  checked = subst (λ (x : Sent). AreChecked x) (sym sent) (checked_up k.story.sent free.sent up h.checked);
  queued = subst (λ (x : Sent). UnitsP (IsQueued s x) (array_of s j).units) (sym sent)
      (subst (λ (x : List Event). UnitsP (IsQueued s free.sent) (or_start s (array_after_events s k.array x)).units)
      (sym shown) (queued_sent s k.story.sent free.sent (array_of s k).units
      (λ i e. ap (λ (x : List Item). has_item x i) up.grows.sent ∙ e) (λ i e o. up.over i e o) h.queued));
  served = λ i e. sym (λ x. served_after s k (con x) (next x)) ∙ e;
  senses = λ n was e sv rst. none_some (sense_item n) (sym (h.apart con).1 ∙ sv);
  talks = λ n e rst. none_some n (sym next ∙ e);
})
  where
    d : RowReading
    d = row_reading k.story.bus_state row

    j : RunState
    j = run_state_after s k row

    free : Story
    free = story_on_free_bus s k.story d row

    shown : row_events_by s k.story d row ≡ []
    shown =
        ap (λ (q : Bool). if q then (if rises d.change.own.rst d.change.next.rst then Event.Reset row.dev ∷ [] else [])
        else link_events s k.story k.story.link d) off
        ∙ ap (λ (x : Option Link). link_events s k.story x d) (h.apart con).0

    changed : story_by_change s k.story d row ≡ free
    changed = ap (λ (q : Bool). if q then record k.story { link = None }
        else story_on_bus s k.story k.story.bus_state.connection d.next d row) off
        ∙ (λ i. story_on_bus s k.story (con i) (next i) d row)

    sent : j.story.sent ≡ free.sent
    sent = ap (λ (x : List Event). (story_after_events s (story_by_change s k.story d row) x).sent) shown
        ∙ ap (λ (x : Story). x.sent) changed

    link : j.story.link ≡ None
    link = events_link s (story_by_change s k.story d row) (row_events_by s k.story d row)
        ∙ ap (λ (x : Story). x.link) changed ∙ keeps ∙ (h.apart con).0

-- ---- a connection ends

lost_none : (s : ScenarioValue) (b : Story) (item : Option Item) → Admits s b (item_loss_events item)
lost_none s b None = tt
lost_none s b (Some (process id)) = (λ p e. absurd cc, tt)
lost_none s b (Some (abort k)) = tt

aborted_none : (s : ScenarioValue) (b : Story) (item : Option Item) → Admits s b (item_abort_events s item)
aborted_none s b None = tt
aborted_none s b (Some (process id)) = tt
aborted_none s b (Some (abort k)) = go (abort_line_at s.aborts k)
  where
    go : (a : Option AbortDef) → Admits s b (abort_line_events a)
    go None = tt
    go (Some a) = (λ p e. absurd cc, tt)

freed_none : (s : ScenarioValue) (b : Story) (l : Link) (last : LastMessage) → Admits s b (bus_free_events s l last)
freed_none s b l plain = lost_none s b l.item
freed_none s b l complete = tt
freed_none s b l disconnect = tt
freed_none s b l abortive = aborted_none s b l.item

-- An automatic REQUEST SENSE is over then.
pub items_end : (s : ScenarioValue) (k : RunState) (row : Row) (m : Connection) (l : Link) → Items s k
    → (row_reading k.story.bus_state row).change.after.rst ≡ false → k.story.bus_state.connection ≡ Some m
    → (row_reading k.story.bus_state row).next ≡ None → k.story.link ≡ Some l
    → ((w : ℕ) → k.served ≡ Some (sense_item w) → is_open_sense k.story.sent w ≡ true
    → (l.last ≡ plain) × (l.item ≡ Some (sense_item w))) → Items s (run_state_after s k row)
items_end s k row m l h off con next el closes = items_left s k row h (record {
  apart = λ e. (link, (λ x. served_after s k (con x) (next x)));
  grows = grown_by s k changed shown same;
  checked = checked_by s k changed shown same h.checked;
  queued = by_events s k changed shown same
      (subst (λ (x : List Event). Admits s changed x) (sym is) (freed_none s changed l l.last)) h.queued;
  served = λ i e. none_some i (sym (λ x. served_after s k (con x) (next x)) ∙ e);
  senses = λ w was e sv rst. let z = closes w sv was in open_over j.story.sent w e (lost w z.0 z.1);
  talks = λ w e rst. none_some w (sym next ∙ e);
})
  where
    d : RowReading
    d = row_reading k.story.bus_state row

    j : RunState
    j = run_state_after s k row

    changed : Story
    changed = story_by_change s k.story d row

    shown : List Event
    shown = row_events_by s k.story d row

    is : shown ≡ bus_free_events s l l.last
    is = ap (λ (q : Bool). if q then (if rises d.change.own.rst d.change.next.rst then Event.Reset row.dev ∷ [] else [])
        else link_events s k.story k.story.link d) off ∙ ap (λ (x : Option Link). link_events s k.story x d) el ∙ ap
        (λ (x : Option Connection). if is_some x then connection_events s k.story l d else bus_free_events s l l.last)
        next

    made : changed ≡ record k.story { link = None }
    made = ap (λ (q : Bool). if q then record k.story { link = None }
        else story_on_bus s k.story k.story.bus_state.connection d.next d row) off
        ∙ (λ i. story_on_bus s k.story (con i) (next i) d row)

    same : changed.sent ≡ k.story.sent
    same = ap (λ (x : Story). x.sent) made

    link : j.story.link ≡ None
    link = events_link s changed shown ∙ ap (λ (x : Story). x.link) made

    lost : (w : ℕ) → l.last ≡ plain → l.item ≡ Some (sense_item w) → has_item j.story.sent.over (sense_item w) ≡ true
    lost w e f = ap (λ (x : List Event). has_item (story_after_events s changed x).sent.over (sense_item w))
        (is ∙ ap (bus_free_events s l) e ∙ ap item_loss_events f)
        ∙ lost_over s changed (record { command = w; sense = true })

-- ---- a connection goes on

-- A command is accepted as COMMAND is left.
queue_admits : (s : ScenarioValue) (b x : Story) (c : Option CarriedBytes) (before : LineSet)
    → (is_command before ≡ true → (y : CarriedBytes) → c ≡ Some y
    → (has_item x.sent.sent (process y.id) ≡ true) × (has_item x.sent.over (process y.id) ≡ false))
    → Admits s x (queue_events s b c before)
queue_admits s b x None before h = tt
queue_admits s b x (Some v) before h = go (is_command before) refl (is_whole_block v)
  where
    accepts : (q : Bool) → (has_item x.sent.sent (process v.id) ≡ true) × (has_item x.sent.over (process v.id) ≡ false)
        → (id : ProcId) → (if q then Event.Accept v.id else Event.Refuse v.id) ≡ Event.Accept id
        → (has_item x.sent.sent (process id) ≡ true) × (has_item x.sent.over (process id) ≡ false)
    accepts true w id e = subst (λ (y : ProcId). (has_item x.sent.sent (process y) ≡ true)
        × (has_item x.sent.over (process y) ≡ false)) (ap (accepted v.id) e) w
      where
        accepted : ProcId → Event → ProcId
        accepted y (Event.Accept z) = z
        accepted y _ = y
    accepts false w id e = absurd cc

    go : (q : Bool) → is_command before ≡ q
        → (r : Bool) → Admits s x (if q && r then queue_event s b.history v.id ∷ [] else [])
    go true e true = (accepts (is_some (array_after s (Event.Accept v.id ∷ b.history))) (h e v refl), tt)
    go true e false = tt
    go false e r = tt

status_admits : (s : ScenarioValue) (x : Story) (c : Option CarriedBytes) (after : LineSet) (arrived : List Event)
    → Admits s x arrived → Admits s x (status_events c after arrived)
status_admits s x None after arrived h = h
status_admits s x (Some y) after arrived h =
    go (is_status_phase after && not y.shown && not y.refused && not (list_any (λ e. is_refuse e) arrived)) y.failure
  where
    go : (q : Bool) (f : Option ℕ) → Admits s x (if q then status_event y.id f ∷ arrived else arrived)
    go true None = (λ id e. absurd cc, h)
    go true (Some code) = (λ id e. absurd cc, h)
    go false f = h

end_admits : (s : ScenarioValue) (x : Story) (c : Option CarriedBytes) → Admits s x (end_events c)
end_admits s x None = tt
end_admits s x (Some y) = (λ id e. absurd cc, tt)

-- The process of the link is not over while COMMAND lasts.
pub items_on : (s : ScenarioValue) (k : RunState) (row : Row) (n : Connection) (c : Change) (l : Link)
    → Items s k → IsRowIn k row n c → k.story.link ≡ Some l
    → (is_command c.before ≡ true → (i : Item) → l.item ≡ Some i → has_item k.story.sent.over i ≡ false)
    → Talks s (run_state_after s k row) n → Items s (run_state_after s k row)
items_on s k row n c l h r el opens talks = go (is_some (receiver_in n c)) refl
  where
    j : RunState
    j = run_state_after s k row

    d : RowReading
    d = row_reading k.story.bus_state row

    changed : Story
    changed = story_by_change s k.story d row

    go : (now : Bool) → is_some (receiver_in n c) ≡ now → Items s j
    go now en = items_left s k row h (record {
      apart = λ e. none_some n (sym e ∙ stands);
      grows = (over_after s k row n c now l r en el).grows;
      checked = checked_by s k changed shown same h.checked;
      queued = by_events s k changed shown same (subst (λ (x : List Event). Admits s changed x)
          (sym (row_shows s k row n c now l r en el)) (admits (changes_phase c) (is_completion l c))) h.queued;
      served = λ i e. sym kept ∙ e;
      senses = λ m was e sv rst. (kept ∙ sv, calm);
      talks = λ m e rst. subst (λ (x : Connection). Talks s j x) (same_Some n m (sym stands ∙ e)) talks;
    })
      where
        reading : d ≡ reading_in k.story.bus_state n c now
        reading = reading_is k row n c now r en

        shown : List Event
        shown = row_events_by s k.story d row

        stands : j.story.bus_state.connection ≡ Some n
        stands = ap (λ (x : RowReading). x.next) reading

        kept : j.served ≡ k.served
        kept = λ i. served_after s k (r.connection_is i) (stands i)

        calm : (bus_of j).rst ≡ false
        calm = ap (λ (x : RowReading). x.change.after.rst) reading ∙ r.calm

        same : changed.sent ≡ k.story.sent
        same = row_sent s k row n c now l r en el

        there : is_command c.before ≡ true → (y : CarriedBytes) → carried_if k.story l.item ≡ Some y
            → (has_item changed.sent.sent (process y.id) ≡ true) × (has_item changed.sent.over (process y.id) ≡ false)
        there z y e =
            let i = carried_of_item k.story l.item y e in (
              ap (λ (x : Sent). has_item x.sent (process y.id)) same ∙ (h.only.link l el).item (process y.id) i,
              ap (λ (x : Sent). has_item x.over (process y.id)) same ∙ opens z (process y.id) i,
            )

        admits : (q t : Bool) → Admits s changed (if q then phase_events s k.story (carried_if k.story l.item) c
            else if t then end_events (carried_if k.story l.item) else [])
        admits true t = status_admits s changed (carried_if k.story l.item) c.after
            (queue_events s k.story (carried_if k.story l.item) c.before)
            (queue_admits s k.story changed (carried_if k.story l.item) c.before there)
        admits false true = end_admits s changed (carried_if k.story l.item)
        admits false false = tt
