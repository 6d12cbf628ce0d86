-- The events that a row shows are of the process of the connection, but for aborts and resets.
use Rattle.story_laws.proofs
use proofs.Names.{ℕ, ◌≡◌, Bool, true, false, not, ◌&&◌, ◌∙◌, List, [], ◌∷◌, Option, Some, None, refl, sym, ap, ◌+◌}
use proofs.Names.{◌||◌, subst, or_parts, same_Some, list_any, if◌then◌else◌, is_some, ⊤, is_none, wrong, and_first}
use proofs.Names.{and_second, or_true, eq_self, Event, ProcId, rises, falls, LineSet, changes_phase, is_command, Kind}
use proofs.Names.{Drives, Fault, Row, Change, Connection, Call, Calling, MsgIn, MsgOut, ScenarioValue, AbortDef, CmdDef}
use proofs.Names.{array_after, same_number, tag_number, same_id, carried_id, ends_keep, check_keeps, event_sent}
use proofs.Names.{events_sent, message_id, RowReading, row_reading, CarriedBytes, is_whole_block, is_status_phase}
use proofs.Names.{carried_at, with_carried, carried_of, with_restored_pointers, carried_after_byte, carried_if}
use proofs.Names.{queue_event, queue_events, is_refuse, status_event, status_events, phase_events, is_completion}
use proofs.Names.{end_events, item_loss_events, abort_line_at, abort_line_events, item_abort_events, bus_free_events}
use proofs.Names.{link_events, row_events_by, Item, process, abort, same_item, has_item, command_item, sense_item, Sent}
use proofs.Names.{is_open, Link, LastMessage, plain, complete, disconnect, abortive, link_of, last_out, last_in}
use proofs.Names.{is_of_nexus, is_open_sense, named_item_from, link_after_name, Story, by_abort, by_reset, is_aborted}
use proofs.Names.{is_sense_stopped, marked_refused, marked_shown, story_with_end, story_after_event, story_after_events}
use proofs.Names.{aim_of, is_arbitration_entry, story_with_aim, story_without_answer, story_with_try}
use proofs.Names.{story_after_calling_by, story_after_calling, story_on_free_bus, story_with_restored, story_with_sent}
use proofs.Names.{story_after_connection, story_with_carried, is_parity_error, story_after_out}
use proofs.Names.{carried_after_message_if, story_after_message, story_after_in, carried_after_byte_if}
use proofs.Names.{story_after_byte, carried_after_fault_if, story_after_fault, story_in_connection, story_on_bus}
use proofs.Names.{story_by_change, item_of, RunState, run_state, run_state_after, self_id, id_is, LinkSent, LinksSent}
use proofs.{Names.{SentOnly}, Items.Stays.{inside_sent}, Pointers.Steps.{fault_id}}

-- The process of an event.
abbrev pub process_in : Event → Option ProcId
process_in (Event.Accept id) = Some id
process_in (Event.Refuse id) = Some id
process_in (Event.Run id) = Some id
process_in (Event.Fail id code) = Some id
process_in (Event.End id status) = Some id
process_in (Event.Lost id) = Some id
process_in (Event.Aborted host target unit what) = None
process_in (Event.Reset dev) = None

abbrev pub IsOf : Option Item → Event → Type 0
IsOf item event = (id : ProcId) → process_in event ≡ Some id → item ≡ Some (process id)

abbrev pub AllOf : Option Item → List Event → Type 0
AllOf item [] = ⊤
AllOf item (event ∷ shown) = IsOf item event × AllOf item shown

abbrev or_id : ProcId → Option ProcId → ProcId
or_id x None = x
or_id x (Some y) = y

its_own : (item : Option Item) (d id : ProcId) → item ≡ Some (process d) → Some d ≡ Some id → item ≡ Some (process id)
its_own item d id e f = e ∙ ap (λ (x : ProcId). Some (process x)) (ap (or_id d) f)

no_id : (item : Option Item) (id : ProcId) → (let a : Option ProcId = None in a) ≡ Some id → item ≡ Some (process id)
no_id item id e = absurd cc

-- What is carried is of the process of the connection.
pub carried_of_item : (b : Story) (item : Option Item) (c : CarriedBytes) → carried_if b item ≡ Some c
    → item ≡ Some (process c.id)
carried_of_item b None c e = absurd (none_some c e)
  where
    none_some : (x : CarriedBytes) → (let a : Option CarriedBytes = None in a) ≡ Some x → ⊥
    none_some x z = cc
carried_of_item b (Some (abort k)) c e = absurd (none_some c e)
  where
    none_some : (x : CarriedBytes) → (let a : Option CarriedBytes = None in a) ≡ Some x → ⊥
    none_some x z = cc
carried_of_item b (Some (process id)) c e = ap (λ (x : ProcId). Some (process x))
    (sym (carried_id b.carried id) ∙ ap (λ (x : Option CarriedBytes). (or_bytes c x).id) e)
  where
    or_bytes : CarriedBytes → Option CarriedBytes → CarriedBytes
    or_bytes x None = x
    or_bytes x (Some y) = y

queued_of : (s : ScenarioValue) (history : List Event) (item : Option Item) (d : ProcId) → item ≡ Some (process d)
    → IsOf item (queue_event s history d)
queued_of s history item d e = go (is_some (array_after s (Event.Accept d ∷ history)))
  where
    go : (q : Bool) → IsOf item (if q then Event.Accept d else Event.Refuse d)
    go true id f = its_own item d id e f
    go false id f = its_own item d id e f

arrived_of : (s : ScenarioValue) (b : Story) (item : Option Item) (c : Option CarriedBytes) (before : LineSet)
    → ((x : CarriedBytes) → c ≡ Some x → item ≡ Some (process x.id)) → AllOf item (queue_events s b c before)
arrived_of s b item None before h = tt
arrived_of s b item (Some c) before h = go (is_command before && is_whole_block c)
  where
    go : (q : Bool) → AllOf item (if q then queue_event s b.history c.id ∷ [] else [])
    go true = (queued_of s b.history item c.id (h c refl), tt)
    go false = tt

run_of : (item : Option Item) (d : ProcId) (code : Option ℕ) → item ≡ Some (process d) → IsOf item (status_event d code)
run_of item d None e id f = its_own item d id e f
run_of item d (Some code) e id f = its_own item d id e f

replied_of : (item : Option Item) (c : Option CarriedBytes) (after : LineSet) (arrived : List Event)
    → ((x : CarriedBytes) → c ≡ Some x → item ≡ Some (process x.id)) → AllOf item arrived
    → AllOf item (status_events c after arrived)
replied_of item None after arrived h g = g
replied_of item (Some c) after arrived h g =
    go (is_status_phase after && not c.shown && not c.refused && not (list_any (λ e. is_refuse e) arrived))
  where
    go : (q : Bool) → AllOf item (if q then status_event c.id c.failure ∷ arrived else arrived)
    go true = (run_of item c.id c.failure (h c refl), g)
    go false = g

ended_of : (item : Option Item) (c : Option CarriedBytes)
    → ((x : CarriedBytes) → c ≡ Some x → item ≡ Some (process x.id)) → AllOf item (end_events c)
ended_of item None h = tt
ended_of item (Some c) h = (λ id f. its_own item c.id id (h c refl) f, tt)

lost_of : (item : Option Item) → AllOf item (item_loss_events item)
lost_of None = tt
lost_of (Some (process p)) = (λ id f. its_own (Some (process p)) p id refl f, tt)
lost_of (Some (abort k)) = tt

aborted_of : (s : ScenarioValue) (item : Option Item) → AllOf item (item_abort_events s item)
aborted_of s None = tt
aborted_of s (Some (process p)) = tt
aborted_of s (Some (abort k)) = go (abort_line_at s.aborts k)
  where
    go : (a : Option AbortDef) → AllOf (Some (abort k)) (abort_line_events a)
    go None = tt
    go (Some a) = (λ id f. no_id (Some (abort k)) id f, tt)

freed_of : (s : ScenarioValue) (l : Link) (last : LastMessage) → AllOf l.item (bus_free_events s l last)
freed_of s l plain = lost_of l.item
freed_of s l complete = tt
freed_of s l disconnect = tt
freed_of s l abortive = aborted_of s l.item

linked_of : (s : ScenarioValue) (b : Story) (link : Option Link) (d : RowReading)
    → AllOf (item_of link) (link_events s b link d)
linked_of s b None d = tt
linked_of s b (Some l) d = go (is_some d.next) (changes_phase d.change) (is_completion l d.change)
  where
    own : (x : CarriedBytes) → carried_if b l.item ≡ Some x → l.item ≡ Some (process x.id)
    own x e = carried_of_item b l.item x e

    go : (q r t : Bool) → AllOf l.item (if q then (if r then phase_events s b (carried_if b l.item) d.change
        else if t then end_events (carried_if b l.item) else []) else bus_free_events s l l.last)
    go true true t = replied_of l.item (carried_if b l.item) d.change.after (queue_events s b
        (carried_if b l.item) d.change.before) own (arrived_of s b l.item (carried_if b l.item) d.change.before own)
    go true false true = ended_of l.item (carried_if b l.item) own
    go true false false = tt
    go false r t = freed_of s l l.last

pub row_of : (s : ScenarioValue) (b : Story) (d : RowReading) (row : Row)
    → AllOf (item_of b.link) (row_events_by s b d row)
row_of s b d row = go d.change.after.rst (rises d.change.own.rst d.change.next.rst)
  where
    go : (q r : Bool)
        → AllOf (item_of b.link) (if q then (if r then Event.Reset row.dev ∷ [] else []) else link_events s b b.link d)
    go true true = (λ id f. no_id (item_of b.link) id f, tt)
    go true false = tt
    go false r = linked_of s b b.link d

-- ---- After any rows what was carried is of processes that were sent, and so is the item of the link.

-- ---- items

pub self_item : (i : Item) → same_item i i ≡ true
self_item (process id) = self_id id
self_item (abort k) = eq_self k

pub more_has : (i x : Item) (items : List Item) → has_item items x ≡ true → has_item (i ∷ items) x ≡ true
more_has i x items e = ap (λ (q : Bool). same_item i x || q) e ∙ or_true (same_item i x)

pub own_has : (i : Item) (items : List Item) → has_item (i ∷ items) i ≡ true
own_has i items = ap (λ (q : Bool). q || has_item items i) (self_item i)

pub less_has : (i x : Item) (items : List Item) → has_item (i ∷ items) x ≡ false → has_item items x ≡ false
less_has i x items e = (or_parts (same_item i x) (has_item items x) e).1

-- ---- what names find was sent

find_sent : (b : Sent) (i t u : ℕ) (tag : Option ℕ) (m : ℕ) (commands : List CmdDef) (item : Item)
    → named_item_from b i t u tag m commands ≡ Some item → has_item b.sent item ≡ true
find_sent b i t u tag m [] item e = absurd (no_item item e)
  where
    no_item : (x : Item) → (let a : Option Item = None in a) ≡ Some x → ⊥
    no_item x z = cc
find_sent b i t u tag m (c ∷ commands) item e =
    go (is_of_nexus c i t u && is_open b m && same_number (tag_number c.tag) tag) (is_of_nexus c i t u
    && is_open_sense b m && same_number None tag) refl refl e (λ z. find_sent b i t u tag (m + 1) commands item z)
  where
    or_item : Item → Option Item → Item
    or_item x None = x
    or_item x (Some y) = y

    go : (q r : Bool) → (is_of_nexus c i t u && is_open b m && same_number (tag_number c.tag) tag) ≡ q
        → (is_of_nexus c i t u && is_open_sense b m && same_number None tag) ≡ r → (if q then Some (command_item m)
        else if r then Some (sense_item m) else named_item_from b i t u tag (m + 1) commands) ≡ Some item
        → (named_item_from b i t u tag (m + 1) commands ≡ Some item → has_item b.sent item ≡ true)
        → has_item b.sent item ≡ true
    go true r x y z rest =
        let o = and_second (is_of_nexus c i t u) (is_open b m)
        (and_first (is_of_nexus c i t u && is_open b m) (same_number (tag_number c.tag) tag) x) in
        ap (has_item b.sent) (sym (ap (or_item item) z))
        ∙ and_first (has_item b.sent (command_item m)) (not (has_item b.over (command_item m))) o
    go false true x y z rest =
        let o = and_second (is_of_nexus c i t u) (is_open_sense b m)
        (and_first (is_of_nexus c i t u && is_open_sense b m) (same_number None tag) y) in
        ap (has_item b.sent) (sym (ap (or_item item) z))
        ∙ and_first (has_item b.sent (sense_item m)) (not (has_item b.over (sense_item m))) o
    go false false x y z rest = rest z

-- ---- of a story

only_by : (a b : Story) → a.carried ≡ b.carried → a.link ≡ b.link → a.sent.sent ≡ b.sent.sent → SentOnly b → SentOnly a
only_by a b ec el es h = record {
  carried = λ id e. ap (λ (x : List CarriedBytes). carried_at x id) ec
      ∙ h.carried id (ap (λ (x : List Item). has_item x (process id)) (sym es) ∙ e);
  link = subst (λ (x : Option Link). LinksSent a.sent.sent x) (sym el)
      (subst (λ (x : List Item). LinksSent x b.link) (sym es) h.link);
}

pub no_links : (sent : List Item) → LinksSent sent None
no_links sent l e = absurd (none_link l e)
  where
    none_link : (x : Link) → (let a : Option Link = None in a) ≡ Some x → ⊥
    none_link x z = cc

one_link : (sent : List Item) (l : Link) → LinkSent sent l → LinksSent sent (Some l)
one_link sent l h m e = subst (λ (x : Link). LinkSent sent x) (same_Some l m e) h

link_here : (b : Story) (l : Link) → b.link ≡ Some l → SentOnly b → LinkSent b.sent.sent l
link_here b l e h = h.link l e

-- Nothing else is found where one is put.
kept_none : (all : List CarriedBytes) (c : CarriedBytes) (id : ProcId) → same_id c.id id ≡ false
    → carried_at all id ≡ None → carried_at (with_carried all c) id ≡ None
kept_none [] c id ne e = ap (λ (q : Bool). if q then Some c else None) ne
kept_none (w ∷ all) c id ne e = go (same_id w.id c.id) (same_id w.id id) refl refl e (kept_none all c id ne)
  where
    none_some : {A : Type 0} (x : CarriedBytes) → Some x ≡ None → A
    none_some x z = absurd cc

    go : (q r : Bool) → same_id w.id c.id ≡ q → same_id w.id id ≡ r → (if r then Some w else carried_at all id) ≡ None
        → (carried_at all id ≡ None → carried_at (with_carried all c) id ≡ None)
        → carried_at (if q then c ∷ all else w ∷ with_carried all c) id ≡ None
    go q true x y z rest = none_some w z
    go true false x y z rest = ap (λ (b : Bool). if b then Some c else carried_at all id) ne ∙ z
    go false false x y z rest = ap (λ (b : Bool). if b then Some w else carried_at (with_carried all c) id) y ∙ rest z

put : (b : Story) (c : CarriedBytes) → has_item b.sent.sent (process c.id) ≡ true → SentOnly b
    → SentOnly (record b { carried = with_carried b.carried c })
put b c there h = record {
  carried = λ id e. kept_none b.carried c id (apart (same_id c.id id) id refl e) (h.carried id e);
  link = h.link;
}
  where
    apart : (q : Bool) (id : ProcId) → same_id c.id id ≡ q → has_item b.sent.sent (process id) ≡ false
        → same_id c.id id ≡ false
    apart true id z e = wrong (sym there ∙ ap (λ (x : ProcId). has_item b.sent.sent (process x)) (id_is c.id id z) ∙ e)
    apart false id z e = z

put_if : (b : Story) (c : Option CarriedBytes)
    → ((x : CarriedBytes) → c ≡ Some x → has_item b.sent.sent (process x.id) ≡ true) → SentOnly b
    → SentOnly (story_with_carried b c)
put_if b None there h = h
put_if b (Some c) there h = put b c (there c refl) h

-- ---- events

marked : (b : Story) (id : ProcId) (mark : CarriedBytes → CarriedBytes)
    → ((c : CarriedBytes) → (mark c).id ≡ c.id) → has_item b.sent.sent (process id) ≡ true → SentOnly b
    → SentOnly (record b { carried = with_carried b.carried (mark (carried_of b.carried id)) })
marked b id mark same there h = put b (mark (carried_of b.carried id))
    (ap (λ (x : ProcId). has_item b.sent.sent (process x)) (same (carried_of b.carried id) ∙ carried_id b.carried id)
    ∙ there) h

event_only : (s : ScenarioValue) (b : Story) (item : Option Item) (event : Event)
    → ((i : Item) → item ≡ Some i → has_item b.sent.sent i ≡ true) → IsOf item event → SentOnly b
    → SentOnly (story_after_event s b event)
event_only s b item (Event.Accept id) there of h = h
event_only s b item (Event.Refuse id) there of h =
    marked b id (λ c. marked_refused c) (λ c. refl) (there (process id) (of id refl)) h
event_only s b item (Event.Run id) there of h =
    marked b id (λ c. marked_shown c) (λ c. refl) (there (process id) (of id refl)) h
event_only s b item (Event.Fail id code) there of h =
    marked b id (λ c. marked_shown c) (λ c. refl) (there (process id) (of id refl)) h
event_only s b item (Event.End id status) there of h =
    let k = check_keeps (story_with_end b id _) id status in
    only_by (story_after_event s b (Event.End id status)) b k.0 k.1 (event_sent s b (Event.End id status)) h
event_only s b item (Event.Lost id) there of h = record { carried = h.carried; link = h.link }
event_only s b item (Event.Aborted host target unit what) there of h =
    let k = ends_keep (is_aborted host target unit what)
    (is_sense_stopped host target unit what) by_abort 1 s.commands b in
    only_by (story_after_event s b (Event.Aborted host target unit what)) b k.0 k.1
    (event_sent s b (Event.Aborted host target unit what)) h
event_only s b item (Event.Reset dev) there of h =
    let k = ends_keep (λ c. true) (λ c. true) by_reset 1 s.commands b in
    only_by (story_after_event s b (Event.Reset dev)) b k.0 k.1 (event_sent s b (Event.Reset dev)) h

pub events_only : (s : ScenarioValue) (b : Story) (item : Option Item) (shown : List Event)
    → ((i : Item) → item ≡ Some i → has_item b.sent.sent i ≡ true) → AllOf item shown → SentOnly b
    → SentOnly (story_after_events s b shown)
events_only s b item [] there of h = h
events_only s b item (event ∷ shown) there of h = event_only s (story_after_events s b shown) item event
    (λ i e. ap (λ (x : List Item). has_item x i) (events_sent s b shown) ∙ there i e) of.0
    (events_only s b item shown there of.1 h)

-- ---- outside a connection

pub free_keeps : (s : ScenarioValue) (b : Story) (d : RowReading) (row : Row)
    → ((story_on_free_bus s b d row).carried ≡ b.carried) × ((story_on_free_bus s b d row).link ≡ b.link)
    × ((story_on_free_bus s b d row).sent.sent ≡ b.sent.sent)
free_keeps s b d row = go (is_arbitration_entry b d) (falls d.change.before.sel d.change.after.sel)
  where
    tried : (dev : ℕ) (item : Option Item)
        → ((story_with_try s b dev item).carried ≡ b.carried) × ((story_with_try s b dev item).link ≡ b.link)
        × ((story_with_try s b dev item).sent.sent ≡ b.sent.sent)
    tried dev None = (refl, refl, refl)
    tried dev (Some item) = by _ item
      where
        next : Story
        next = record b { sent = record b.sent { tries = item ∷ b.sent.tries } }

        by : (q : Bool) (i : Item) → ((if q then story_without_answer next i else next).carried ≡ b.carried)
            × ((if q then story_without_answer next i else next).link ≡ b.link)
            × ((if q then story_without_answer next i else next).sent.sent ≡ b.sent.sent)
        by true (process id) = (refl, refl, refl)
        by true (abort c) = (refl, refl, refl)
        by false i = (refl, refl, refl)

    called : (call : Option Call) → ((story_after_calling s b call).carried ≡ b.carried)
        × ((story_after_calling s b call).link ≡ b.link) × ((story_after_calling s b call).sent.sent ≡ b.sent.sent)
    called None = (refl, refl, refl)
    called (Some c) = by c.calling
      where
        by : (g : Option Calling) → ((story_after_calling_by s b c.caller g).carried ≡ b.carried)
            × ((story_after_calling_by s b c.caller g).link ≡ b.link)
            × ((story_after_calling_by s b c.caller g).sent.sent ≡ b.sent.sent)
        by None = (refl, refl, refl)
        by (Some g) = one (is_none g.answered && not g.reselects)
          where
            one : (q : Bool)
                → ((if q then story_with_try s b c.caller (aim_of b.aims c.caller) else b).carried ≡ b.carried)
                × ((if q then story_with_try s b c.caller (aim_of b.aims c.caller) else b).link ≡ b.link)
                × ((if q then story_with_try s b c.caller (aim_of b.aims c.caller) else b).sent.sent ≡ b.sent.sent)
            one true = tried c.caller (aim_of b.aims c.caller)
            one false = (refl, refl, refl)

    go : (q r : Bool)
        → ((if q then story_with_aim s b row else if r then story_after_calling s b b.bus_state.call else b).carried
        ≡ b.carried)
        × ((if q then story_with_aim s b row else if r then story_after_calling s b b.bus_state.call else b).link
        ≡ b.link)
        × ((if q then story_with_aim s b row else if r then story_after_calling s b b.bus_state.call else b).sent.sent
        ≡ b.sent.sent)
    go true r = (refl, refl, refl)
    go false true = called b.bus_state.call
    go false false = (refl, refl, refl)

-- ---- a connection begins

restored_only : (b : Story) (item : Option Item)
    → ((i : Item) → item ≡ Some i → has_item b.sent.sent i ≡ true) → SentOnly b → SentOnly (story_with_restored b item)
restored_only b None there h = h
restored_only b (Some (process id)) there h =
    marked b id (λ c. with_restored_pointers c) (λ c. refl) (there (process id) refl) h
restored_only b (Some (abort k)) there h = h

sent_only : (b : Story) (i : Item)
    → ((id : ProcId) → has_item b.sent.sent (process id) ≡ false → carried_at b.carried id ≡ None)
    → LinksSent (i ∷ b.sent.sent) b.link → SentOnly (story_with_sent b (Some i))
sent_only b i h g = record { carried = λ id e. h id (less_has i (process id) b.sent.sent e); link = g }

begun_only : (b : Story) (n : Connection) → SentOnly b → SentOnly (story_after_connection b n)
begun_only b n h = go n.reselected (aim_of b.aims n.initiator)
  where
    none_item : (sent : List Item) → LinkSent sent (link_of n None)
    none_item sent = record { item = λ i e. no_item i e; undo = λ c e. no_bytes c e }
      where
        no_item : (x : Item) → (let a : Option Item = None in a) ≡ Some x → has_item sent x ≡ true
        no_item x z = absurd cc

        no_bytes : (x : CarriedBytes) → (let a : Option CarriedBytes = None in a) ≡ Some x
            → has_item sent (process x.id) ≡ true
        no_bytes x z = absurd cc

    own_item : (i : Item) → LinkSent (i ∷ b.sent.sent) (link_of n (Some i))
    own_item i = record {
      item = λ w e. ap (has_item (i ∷ b.sent.sent)) (sym (ap (or_item i) e)) ∙ own_has i b.sent.sent;
      undo = λ c e. no_bytes c e;
    }
      where
        or_item : Item → Option Item → Item
        or_item x None = x
        or_item x (Some y) = y

        no_bytes : (x : CarriedBytes) → (let a : Option CarriedBytes = None in a) ≡ Some x
            → has_item (i ∷ b.sent.sent) (process x.id) ≡ true
        no_bytes x z = absurd cc

    there : (i w : Item) → Some i ≡ Some w → has_item (i ∷ b.sent.sent) w ≡ true
    there i w e = (own_item i).item w e

    go : (q : Bool) (item : Option Item) → SentOnly (if q then record b { link = Some (link_of n None) }
        else story_with_restored (story_with_sent (record b { link = Some (link_of n item) }) item) item)
    go true item = record { carried = h.carried; link = one_link b.sent.sent (link_of n None) (none_item b.sent.sent) }
    go false None = record { carried = h.carried; link = one_link b.sent.sent (link_of n None) (none_item b.sent.sent) }
    go false (Some i) = restored_only (story_with_sent (record b { link = Some (link_of n (Some i)) }) (Some i))
        (Some i) (λ w e. there i w e) (sent_only (record b { link = Some (link_of n (Some i)) }) i h.carried
        (one_link (i ∷ b.sent.sent) (link_of n (Some i)) (own_item i)))

-- ---- in a connection

item_there : (b : Story) (item : Option Item) → ((i : Item) → item ≡ Some i → has_item b.sent.sent i ≡ true)
    → (c : CarriedBytes) → carried_if b item ≡ Some c → has_item b.sent.sent (process c.id) ≡ true
item_there b item there c e = there (process c.id) (carried_of_item b item c e)

out_only : (b : Story) (l : Link) (m : Option MsgOut) → b.link ≡ Some l → SentOnly b → SentOnly (story_after_out b l m)
out_only b l None el h = h
out_only b l (Some m) el h =
    let g = link_here b l el h in
    put_if (record b { link = Some (record l { last = last_out m l }) }) (if is_parity_error m then l.undo else None)
    (go (is_parity_error m)) (record {
      carried = h.carried;
      link = one_link b.sent.sent (record l { last = last_out m l }) (record { item = g.item; undo = g.undo });
    })
  where
    go : (q : Bool) → (x : CarriedBytes) → (if q then l.undo else None) ≡ Some x
        → has_item b.sent.sent (process x.id) ≡ true
    go true x e = (link_here b l el h).undo x e
    go false x e = no_bytes x e
      where
        no_bytes : (y : CarriedBytes) → (let a : Option CarriedBytes = None in a) ≡ Some y
            → has_item b.sent.sent (process y.id) ≡ true
        no_bytes y z = absurd cc

named_sent : (s : ScenarioValue) (b : Sent) (l : Link) (m : MsgIn)
    → ((i : Item) → l.item ≡ Some i → has_item b.sent i ≡ true) → (i : Item)
    → (link_after_name b s.commands l m).item ≡ Some i → has_item b.sent i ≡ true
named_sent s b l (MsgIn.Identify lun) there i e = find_sent b l.initiator l.target lun None 1 s.commands i e
named_sent s b l (MsgIn.SimpleTag tag) there i e = find_sent b l.initiator l.target l.unit (Some tag) 1 s.commands i e
named_sent s b l _ there i e = there i e

abbrev or_bytes : CarriedBytes → Option CarriedBytes → CarriedBytes
or_bytes x None = x
or_bytes x (Some y) = y

messages_there : (sent : List Item) (c : Option CarriedBytes) (m : MsgIn)
    → ((x : CarriedBytes) → c ≡ Some x → has_item sent (process x.id) ≡ true) → (x : CarriedBytes)
    → carried_after_message_if c m ≡ Some x → has_item sent (process x.id) ≡ true
messages_there sent None m there x e = there x e
messages_there sent (Some c) m there x e = ap (λ (i : ProcId). has_item sent (process i))
    (sym (ap (λ (z : CarriedBytes). z.id) (ap (or_bytes x) e)) ∙ message_id c m)
    ∙ there c refl

pub restored_sent : (b : Story) (item : Option Item) → (story_with_restored b item).sent.sent ≡ b.sent.sent
restored_sent b None = refl
restored_sent b (Some (process id)) = refl
restored_sent b (Some (abort k)) = refl

in_only : (s : ScenarioValue) (b : Story) (l : Link) (m : Option MsgIn) → b.link ≡ Some l → SentOnly b
    → SentOnly (story_after_in s b l m)
in_only s b l None el h = h
in_only s b l (Some m) el h = go (is_none l.item)
  where
    g : LinkSent b.sent.sent l
    g = link_here b l el h

    next : Link
    next =
        record (link_after_name b.sent s.commands l m) { last = last_in m; before = l.last; undo = carried_if b l.item }

    fits : LinkSent b.sent.sent next
    fits = record { item = λ i e. named_sent s b.sent l m g.item i e; undo = λ c e. item_there b l.item g.item c e }

    made : (c : Story) → c.sent.sent ≡ b.sent.sent → SentOnly c → SentOnly (story_after_message s c next m)
    made c same z =
        let f : LinkSent c.sent.sent next = subst (λ (x : List Item). LinkSent x next) (sym same) fits in
        put_if (record c { link = Some next }) (carried_after_message_if (carried_if c next.item) m)
        (messages_there c.sent.sent (carried_if c next.item) m (λ x e. item_there c next.item f.item x e))
        (record { carried = z.carried; link = one_link c.sent.sent next f })

    go : (q : Bool) → SentOnly (story_after_message s
        (if q then story_with_restored b (link_after_name b.sent s.commands l m).item else b) next m)
    go true = made (story_with_restored b (link_after_name b.sent s.commands l m).item)
        (restored_sent b (link_after_name b.sent s.commands l m).item)
        (restored_only b (link_after_name b.sent s.commands l m).item (λ i e. named_sent s b.sent l m g.item i e) h)
    go false = made b refl h

byte_id : (c : CarriedBytes) (d : RowReading) (byte : ℕ) → (carried_after_byte c d.change.before byte).id ≡ c.id
byte_id c d byte = go d.change.before.msg d.change.before.cd d.change.before.io
  where
    go : (m x i : Bool) → (carried_after_byte c (record d.change.before { msg = m; cd = x; io = i }) byte).id ≡ c.id
    go true x i = refl
    go false true true = refl
    go false true false = refl
    go false false i = refl

byte_only : (b : Story) (l : Link) (d : RowReading) → b.link ≡ Some l → SentOnly b → SentOnly (story_after_byte b l d)
byte_only b l d el h = go d.change.before.msg
  where
    there : (y : Option CarriedBytes) → ((x : CarriedBytes) → y ≡ Some x → has_item b.sent.sent (process x.id) ≡ true)
        → (x : CarriedBytes) → carried_after_byte_if y d ≡ Some x → has_item b.sent.sent (process x.id) ≡ true
    there None f x e = f x e
    there (Some y) f x e = ap (λ (i : ProcId). has_item b.sent.sent (process i))
        (sym (ap (λ (z : CarriedBytes). z.id) (ap (or_bytes x) e)) ∙ byte_id y d _)
        ∙ f y refl

    go : (q : Bool) → SentOnly (if q then b else story_with_carried b (carried_after_byte_if (carried_if b l.item) d))
    go true = h
    go false = put_if b (carried_after_byte_if (carried_if b l.item) d)
        (there (carried_if b l.item) (λ x e. item_there b l.item (link_here b l el h).item x e)) h

fault_only : (b : Story) (l : Link) (kind : Kind) → b.link ≡ Some l → SentOnly b → SentOnly (story_after_fault b l kind)
fault_only b l (Drives lines) el h = h
fault_only b l (Fault bit) el h = put_if b (carried_after_fault_if (carried_if b l.item) b.bus_state.crossed)
    (there (carried_if b l.item) b.bus_state.crossed (λ x e. item_there b l.item (link_here b l el h).item x e)) h
  where
    there : (y : Option CarriedBytes) (w : Option Change)
        → ((x : CarriedBytes) → y ≡ Some x → has_item b.sent.sent (process x.id) ≡ true) → (x : CarriedBytes)
        → carried_after_fault_if y w ≡ Some x → has_item b.sent.sent (process x.id) ≡ true
    there None w f x e = f x e
    there (Some y) None f x e = f x e
    there (Some y) (Some w) f x e = ap (λ (i : ProcId). has_item b.sent.sent (process i))
        (sym (ap (λ (z : CarriedBytes). z.id) (ap (or_bytes x) e)) ∙ fault_id y w.before)
        ∙ f y refl

connected_only : (s : ScenarioValue) (b : Story) (l : Option Link) (d : RowReading) (row : Row) → b.link ≡ l
    → SentOnly b → SentOnly (story_in_connection s b l d row)
connected_only s b None d row el h = h
connected_only s b (Some l) d row el h = go d.crosses (is_some d.out) (is_some d.into)
  where
    go : (q r t : Bool) → SentOnly (if q then (if r then story_after_out b l d.out
        else if t then story_after_in s b l d.into else story_after_byte b l d) else story_after_fault b l row.kind)
    go true true t = out_only b l d.out el h
    go true false true = in_only s b l d.into el h
    go true false false = byte_only b l d el h
    go false r t = fault_only b l row.kind el h

pub bus_only : (s : ScenarioValue) (b : Story) (m o : Option Connection) (d : RowReading) (row : Row) → SentOnly b
    → SentOnly (story_on_bus s b m o d row)
bus_only s b None None d row h = let e = free_keeps s b d row in only_by (story_on_free_bus s b d row) b e.0 e.1 e.2 h
bus_only s b None (Some n) d row h = begun_only b n h
bus_only s b (Some m) None d row h = record { carried = h.carried; link = no_links b.sent.sent }
bus_only s b (Some m) (Some n) d row h = connected_only s b b.link d row refl h

-- ---- What was sent stays so; and after any rows what was carried is of processes that were sent.

-- What was sent before the row was sent after it.
grown : (s : ScenarioValue) (b : Story) (d : RowReading) (row : Row) (i : Item) → has_item b.sent.sent i ≡ true
    → has_item (story_by_change s b d row).sent.sent i ≡ true
grown s b d row i e = go d.change.after.rst
  where
    begun : (n : Connection) → has_item (story_after_connection b n).sent.sent i ≡ true
    begun n = by n.reselected (aim_of b.aims n.initiator)
      where
        by : (q : Bool) (item : Option Item) → has_item (if q then record b { link = Some (link_of n None) }
            else story_with_restored (story_with_sent (record b { link = Some (link_of n item) }) item) item).sent.sent
            i ≡ true
        by true item = e
        by false None = e
        by false (Some y) = ap (λ (x : List Item). has_item x i)
            (restored_sent (story_with_sent (record b { link = Some (link_of n (Some y)) }) (Some y)) (Some y))
            ∙ more_has y i b.sent.sent e

    carried_sent : (a : Story) (c : Option CarriedBytes) → (story_with_carried a c).sent.sent ≡ a.sent.sent
    carried_sent a None = refl
    carried_sent a (Some c) = refl

    inside : (l : Option Link) → (story_in_connection s b l d row).sent.sent ≡ b.sent.sent
    inside None = refl
    inside (Some l) = ap (λ (x : Sent). x.sent) (inside_sent s b l d row)

    on : (m o : Option Connection) → has_item (story_on_bus s b m o d row).sent.sent i ≡ true
    on None None = ap (λ (x : List Item). has_item x i) (free_keeps s b d row).2 ∙ e
    on None (Some n) = begun n
    on (Some m) None = e
    on (Some m) (Some n) = ap (λ (x : List Item). has_item x i) (inside b.link) ∙ e

    go : (q : Bool) → has_item
        (if q then record b { link = None } else story_on_bus s b b.bus_state.connection d.next d row).sent.sent i
        ≡ true
    go true = e
    go false = on b.bus_state.connection d.next

pub sent_grows : (s : ScenarioValue) (k : RunState) (row : Row) (i : Item) → has_item k.story.sent.sent i ≡ true
    → has_item (run_state_after s k row).story.sent.sent i ≡ true
sent_grows s k row i e =
    let d = row_reading k.story.bus_state row in
    ap (λ (x : List Item). has_item x i)
    (events_sent s (story_by_change s k.story d row) (row_events_by s k.story d row))
    ∙ grown s k.story d row i e

pub only_on : (s : ScenarioValue) (k : RunState) (row : Row) → SentOnly k.story
    → SentOnly (run_state_after s k row).story
only_on s k row h =
    let d = row_reading k.story.bus_state row in
    let changed : Story = story_by_change s k.story d row in
    let done = events_only s changed (item_of k.story.link) (row_events_by s k.story d row)
    (λ i e. grown s k.story d row i (by k.story.link refl i e)) (row_of s k.story d row) (go d.change.after.rst) in
    record { carried = done.carried; link = done.link }
  where
    go : (q : Bool) → SentOnly (if q then record k.story { link = None } else story_on_bus s k.story
        k.story.bus_state.connection (row_reading k.story.bus_state row).next (row_reading k.story.bus_state row) row)
    go true = record { carried = h.carried; link = no_links k.story.sent.sent }
    go false = bus_only s k.story k.story.bus_state.connection (row_reading k.story.bus_state row).next
        (row_reading k.story.bus_state row) row h

    by : (o : Option Link) → k.story.link ≡ o → (i : Item) → item_of o ≡ Some i → has_item k.story.sent.sent i ≡ true
    by None f i e = absurd (no_item i e)
      where
        no_item : (x : Item) → (let a : Option Item = None in a) ≡ Some x → ⊥
        no_item x z = cc
    by (Some l) f i e = (h.link l f).item i e

pub only_are : (s : ScenarioValue) (rows : List Row) → SentOnly (run_state s rows).story
only_are s [] = record { carried = λ id e. refl; link = no_links [] }
only_are s (row ∷ rows) = only_on s (run_state s rows) row (only_are s rows)
