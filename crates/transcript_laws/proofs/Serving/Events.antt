-- The events of a phase that is left, beside the parts that it leaves: the command arrives, and its first STATUS phase
-- comes.
use Rattle.transcript_laws.proofs
use proofs.Names.{ℕ, ◌≡◌, ◌∙◌, Bool, true, false, ◌&&◌, ◌||◌, not, List, [], ◌∷◌, ◌++◌, Option, Some, None, refl, sym}
use proofs.Names.{ap, ◌==◌, append-nil, list_any, if◌then◌else◌, wrong, and_false, Event, ProcId, is_nil, same_id}
use proofs.Names.{CarriedBytes, is_refuse, status_event, marked_refused, marked_shown, self_id, by_bool, AccountValue}
use proofs.Names.{account_after_all, items_named, Name, Part, IsRefused, marked_with, first_byte, IsAccountOf}
use proofs.{Names.{is_refusal, is_answer, has_refusal, has_answer, is_listed, shown_items}, Accounts.Steps.{shown_step}}
use proofs.{Accounts.Steps.{told_step, refused_step}, Parts.Shown.{part_more}, Past.Events.{any_later}}
use proofs.Serving.{Steps.{conn_items, conn_more}, TurnSteps.{arrival}}
use Rattle.bus_transcript.specs.declared.item.Item.{Item}

-- ---- the events

-- Whether the block stands whole, whether the queue has room, and whether STATUS begins.
abbrev pub arrivals : Bool → Bool → ProcId → List Event
arrivals whole room id = if whole then (if room then Event.Accept id else Event.Refuse id) ∷ [] else []

abbrev pub turn_events : Bool → CarriedBytes → List Event → List Event
turn_events begins c arrived =
    if begins && not c.shown && not c.refused && not (list_any (λ e. is_refuse e) arrived)
    then status_event c.id c.failure ∷ arrived else arrived

-- With none of them refused, by what was shown before.
pub data Turn (c : CarriedBytes) (arrived : List Event) (shown : List Event) : Type 0 where
  quiet : shown ≡ arrived → (c.refused ≡ false → c.shown ≡ true) → Turn c arrived shown
  shows : shown ≡ status_event c.id c.failure ∷ arrived → c.refused ≡ false → c.shown ≡ false → Turn c arrived shown

pub turn : (c : CarriedBytes) (arrived : List Event) → list_any (λ e. is_refuse e) arrived ≡ false
    → Turn c arrived (turn_events true c arrived)
turn c arrived none = go c.shown c.refused refl refl
  where
    test : (u v : Bool) → c.shown ≡ u → c.refused ≡ v
        → (true && not c.shown && not c.refused && not (list_any (λ e. is_refuse e) arrived))
        ≡ (true && not u && not v && not false)
    test u v e f = λ i. true && not (e i) && not (f i) && not (none i)

    go : (u v : Bool) → c.shown ≡ u → c.refused ≡ v → Turn c arrived (turn_events true c arrived)
    go true true e f = quiet
        (ap (λ (q : Bool). if q then status_event c.id c.failure ∷ arrived else arrived) (test true true e f)) (λ z. e)
    go true false e f = quiet
        (ap (λ (q : Bool). if q then status_event c.id c.failure ∷ arrived else arrived) (test true false e f)) (λ z. e)
    go false true e f = quiet (ap (λ (q : Bool). if q then status_event c.id c.failure ∷ arrived else arrived)
        (test false true e f)) (λ z. wrong (sym f ∙ z))
    go false false e f = shows
        (ap (λ (q : Bool). if q then status_event c.id c.failure ∷ arrived else arrived) (test false false e f)) f e

pub refused_turn : (c : CarriedBytes) (id : ProcId) → turn_events true c (Event.Refuse id ∷ []) ≡ Event.Refuse id ∷ []
refused_turn c id =
    ap (λ (q : Bool). if q then status_event c.id c.failure ∷ Event.Refuse id ∷ [] else Event.Refuse id ∷ [])
    (and_false (true && not c.shown && not c.refused))

-- ---- the account

abbrev pub status_after : AccountValue → Bool → AccountValue
status_after a begins = account_after_all a (if begins then Part.StatusPhase ∷ [] else [])

pub event_mark : (c : CarriedBytes) (arrived : List Event) → marked_with c arrived ≡ c
    → marked_with c (status_event c.id c.failure ∷ arrived) ≡ marked_shown c
event_mark c arrived e = go c.failure
  where
    go : (failure : Option ℕ) → marked_with c (status_event c.id failure ∷ arrived) ≡ marked_shown c
    go None = ap marked_shown e
    go (Some code) = ap marked_shown e

pub path_account : (a : AccountValue) (c d : CarriedBytes) → c ≡ d → IsAccountOf a c → IsAccountOf a d
path_account a c d e h = record {
  block = h.block ∙ ap (λ (x : CarriedBytes). x.block) e;
  struck = h.struck ∙ ap (λ (x : CarriedBytes). x.struck) e;
  first = h.first ∙ ap (λ (x : CarriedBytes). x.status.active == 0) e;
  saved = sym (ap (λ (x : CarriedBytes). x.status.saved) e) ∙ h.saved;
  status = h.status ∙ ap (λ (x : CarriedBytes). first_byte x.status.bytes) e;
  begun = sym (ap (λ (x : CarriedBytes). is_nil x.status.bytes && not (x.status.active == 0)) e) ∙ h.begun;
  shown = λ f. h.shown (ap (λ (x : CarriedBytes). x.refused) e ∙ f) ∙ ap (λ (x : CarriedBytes). x.shown) e;
}

by_turn : (a : AccountValue) (c : CarriedBytes) (arrived shown : List Event) → marked_with c arrived ≡ c
    → Turn c arrived shown → IsAccountOf a c → IsAccountOf (status_after a true) (marked_with c shown)
by_turn a c arrived shown e (quiet same told) h = path_account (status_after a true) c (marked_with c shown)
    (sym (ap (λ (list : List Event). marked_with c list) same ∙ e)) (told_step a c told h)
by_turn a c arrived shown e (shows same unrefused unshown) h = path_account (status_after a true) (marked_shown c)
    (marked_with c shown) (sym (ap (λ (list : List Event). marked_with c list) same ∙ event_mark c arrived e))
    (shown_step a c h)

pub turn_account : (a : AccountValue) (c : CarriedBytes) (whole room begins : Bool) (id : ProcId) → IsAccountOf a c
    → IsAccountOf (status_after a begins) (marked_with c (turn_events begins c (arrivals whole room id)))
turn_account a c false room false id h = h
turn_account a c true true false id h = h
turn_account a c true false false id h = refused_step a c h
turn_account a c false room true id h = by_turn a c [] (turn_events true c []) refl (turn c [] refl) h
turn_account a c true true true id h = by_turn a c (Event.Accept id ∷ [])
    (turn_events true c (Event.Accept id ∷ [])) refl (turn c (Event.Accept id ∷ []) refl) h
turn_account a c true false true id h = path_account (status_after a true)
    (marked_refused c) (marked_with c (turn_events true c (Event.Refuse id ∷ [])))
    (sym (ap (λ (list : List Event). marked_with c list) (refused_turn c id)))
    (told_step a (marked_refused c) (λ e. wrong e) (refused_step a c h))

-- ---- what is shown

abbrev pub ready : List Name → Bool → Name → List Item
ready refused shown name = if shown then [] else if is_listed refused name then [] else Item.Ready name ∷ []

pub status_shown : (refused : List Name) (a : AccountValue) (begins : Bool)
    → shown_items refused (status_after a begins).items
    ≡ shown_items refused a.items ++ (if begins then ready refused a.process.shown a.process.name else [])
status_shown refused a true = (part_more refused a Part.StatusPhase).shown
status_shown refused a false = sym (append-nil (shown_items refused a.items))

ready_none : (refused : List Name) (shown : Bool) (name : Name) → is_listed refused name ≡ true
    → ready refused shown name ≡ []
ready_none refused true name e = refl
ready_none refused false name e = ap (λ (q : Bool). if q then [] else Item.Ready name ∷ []) e

-- What STATUS shows is what the turn tells.
ready_turn : (refused : List Name) (a : AccountValue) (c : CarriedBytes) (name : Name) (id : ProcId)
    (arrived shown history : List Event) → c.id ≡ id → c.refused ≡ has_refusal history id
    → IsAccountOf a c → Turn c arrived shown → IsRefused refused name id (shown ++ history)
    → conn_items name shown ≡ conn_items name arrived ++ ready refused a.process.shown name
ready_turn refused a c name id arrived shown history own marked h (quiet same told) r =
    ap (λ (list : List Event). conn_items name list) same ∙ sym (append-nil (conn_items name arrived))
    ∙ ap (λ (list : List Item). conn_items name arrived ++ list) (sym (by_bool c.refused (λ e. ready_none
    refused a.process.shown name (r.refusal (any_later (λ x. is_refusal id x) shown history (sym marked ∙ e))))
    (λ e. ap (λ (q : Bool). ready refused q name) (h.shown e ∙ told e))))
ready_turn refused a c name id arrived shown history own marked h (shows same unrefused unshown) r =
    ap (λ (list : List Event). conn_items name list) same ∙ conn_more name (status_event c.id c.failure) arrived
    ∙ ap (λ (list : List Item). conn_items name arrived ++ list)
    (named c.failure ∙ sym (ap (λ (q : Bool). ready refused q name) (h.shown unrefused ∙ unshown)
    ∙ ap (λ (q : Bool). if q then [] else Item.Ready name ∷ []) (r.answer answered)))
  where
    named : (failure : Option ℕ) → items_named name (status_event c.id failure) ≡ Item.Ready name ∷ []
    named None = refl
    named (Some code) = refl

    is_one : (failure : Option ℕ) → is_answer id (status_event c.id failure) ≡ true
    is_one None = ap (λ (x : ProcId). same_id x id) own ∙ self_id id
    is_one (Some code) = ap (λ (x : ProcId). same_id x id) own ∙ self_id id

    answered : has_answer (shown ++ history) id ≡ true
    answered =
        ap (λ (list : List Event). has_answer (list ++ history) id) same
        ∙ ap (λ (q : Bool). q || has_answer (arrived ++ history) id) (is_one c.failure)

pub turn_shown : (refused : List Name) (a : AccountValue) (c : CarriedBytes)
    (name : Name) (id : ProcId) (whole room begins : Bool) (history : List Event)
    → c.id ≡ id → c.refused ≡ has_refusal history id → a.process.name ≡ name → IsAccountOf a c
    → IsRefused refused name id (turn_events begins c (arrivals whole room c.id) ++ history)
    → arrival whole name ++ (if begins then ready refused a.process.shown a.process.name else [])
    ≡ conn_items name (turn_events begins c (arrivals whole room c.id))
turn_shown refused a c name id false room false history own marked named h r = refl
turn_shown refused a c name id true true false history own marked named h r = refl
turn_shown refused a c name id true false false history own marked named h r = refl
turn_shown refused a c name id false room true history own marked named h r =
    ap (λ (y : Name). ready refused a.process.shown y) named
    ∙ sym (ready_turn refused a c name id [] (turn_events true c []) history own marked h (turn c [] refl) r)
turn_shown refused a c name id true true true history own marked named h r =
    ap (λ (y : Name). Item.Arrive name ∷ ready refused a.process.shown y) named
    ∙ sym (ready_turn refused a c name id (Event.Accept c.id ∷ [])
    (turn_events true c (Event.Accept c.id ∷ [])) history own marked h (turn c (Event.Accept c.id ∷ []) refl) r)
turn_shown refused a c name id true false true history own marked named h r =
    ap (λ (y : Name). Item.Arrive name ∷ ready refused a.process.shown y) named
    ∙ ap (λ (list : List Item). Item.Arrive name ∷ list) (ready_none refused a.process.shown name (r.refusal refusing))
    ∙ ap (λ (list : List Event). conn_items name list) (sym (refused_turn c c.id))
  where
    refusing : has_refusal (turn_events true c (Event.Refuse c.id ∷ []) ++ history) id ≡ true
    refusing =
        ap (λ (list : List Event). has_refusal (list ++ history) id) (refused_turn c c.id)
        ∙ ap (λ (q : Bool). q || has_refusal history id) (ap (λ (x : ProcId). same_id x id) own ∙ self_id id)
