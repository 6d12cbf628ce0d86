-- What the events of a connection make of what its process has carried, and of its marks.
use Rattle.transcript_laws.proofs
use proofs.Names.{ℕ, ◌≡◌, ◌∙◌, Bool, true, false, ◌&&◌, ◌||◌, not, List, [], ◌∷◌, ◌++◌, Option, Some, None, refl, sym}
use proofs.Names.{ap, subst, list_any, if◌then◌else◌, wrong, Event, ProcId, ScenarioValue, id_turned, same_id}
use proofs.Names.{carried_id, check_keeps, CarriedBytes, carried_of, with_carried, is_refuse, status_event, Story}
use proofs.Names.{by_status, marked_refused, marked_shown, story_with_end, story_after_event, story_after_events}
use proofs.Names.{self_id, put_own, put_other, IsOwnEvent, AreOwnEvents, marked_by, marked_with, has_refusal}
use proofs.{Names.{has_answer, IsMarked}, Serving.Events.{arrivals, turn_events, Turn, quiet, shows, turn}}
use proofs.Serving.Events.{refused_turn, event_mark}

-- ---- what is carried

event_own : (s : ScenarioValue) (b : Story) (id : ProcId) (event : Event) → IsOwnEvent id event
    → carried_of (story_after_event s b event).carried id ≡ marked_by (carried_of b.carried id) event
event_own s b id (Event.Accept x) e = refl
event_own s b id (Event.Refuse x) e =
    ap (λ (y : ProcId). carried_of (with_carried b.carried (marked_refused (carried_of b.carried y))) id) e
    ∙ put_own b.carried (marked_refused (carried_of b.carried id)) id (carried_id b.carried id)
event_own s b id (Event.Run x) e =
    ap (λ (y : ProcId). carried_of (with_carried b.carried (marked_shown (carried_of b.carried y))) id) e
    ∙ put_own b.carried (marked_shown (carried_of b.carried id)) id (carried_id b.carried id)
event_own s b id (Event.Fail x code) e =
    ap (λ (y : ProcId). carried_of (with_carried b.carried (marked_shown (carried_of b.carried y))) id) e
    ∙ put_own b.carried (marked_shown (carried_of b.carried id)) id (carried_id b.carried id)
event_own s b id (Event.End x status) e =
    ap (λ (all : List CarriedBytes). carried_of all id) (check_keeps (story_with_end b x (by_status status)) x status).0
event_own s b id (Event.Lost x) e = refl
event_own s b id (Event.Aborted host target unit what) e = absurd e
event_own s b id (Event.Reset dev) e = absurd e

pub events_own : (s : ScenarioValue) (b : Story) (id : ProcId) (list : List Event) → AreOwnEvents id list
    → carried_of (story_after_events s b list).carried id ≡ marked_with (carried_of b.carried id) list
events_own s b id [] e = refl
events_own s b id (event ∷ list) e = event_own s (story_after_events s b list) id event e.0
    ∙ ap (λ (c : CarriedBytes). marked_by c event) (events_own s b id list e.1)

event_other : (s : ScenarioValue) (b : Story) (id x : ProcId) (event : Event) → IsOwnEvent id event
    → same_id x id ≡ false → carried_of (story_after_event s b event).carried x ≡ carried_of b.carried x
event_other s b id x (Event.Accept y) e but = refl
event_other s b id x (Event.Refuse y) e but =
    put_other b.carried (marked_refused (carried_of b.carried y)) id x (carried_id b.carried y ∙ e) (id_turned x id but)
event_other s b id x (Event.Run y) e but =
    put_other b.carried (marked_shown (carried_of b.carried y)) id x (carried_id b.carried y ∙ e) (id_turned x id but)
event_other s b id x (Event.Fail y code) e but =
    put_other b.carried (marked_shown (carried_of b.carried y)) id x (carried_id b.carried y ∙ e) (id_turned x id but)
event_other s b id x (Event.End y status) e but =
    ap (λ (all : List CarriedBytes). carried_of all x) (check_keeps (story_with_end b y (by_status status)) y status).0
event_other s b id x (Event.Lost y) e but = refl
event_other s b id x (Event.Aborted host target unit what) e but = absurd e
event_other s b id x (Event.Reset dev) e but = absurd e

pub events_other : (s : ScenarioValue) (b : Story) (id x : ProcId) (list : List Event) → AreOwnEvents id list
    → same_id x id ≡ false → carried_of (story_after_events s b list).carried x ≡ carried_of b.carried x
events_other s b id x [] e but = refl
events_other s b id x (event ∷ list) e but =
    event_other s (story_after_events s b list) id x event e.0 but ∙ events_other s b id x list e.1 but

-- ---- the marks of another

other_id : (id x y : ProcId) → y ≡ id → same_id x id ≡ false → same_id y x ≡ false
other_id id x y e but = ap (λ (z : ProcId). same_id z x) e ∙ id_turned x id but

event_marked : (history : List Event) (id : ProcId) (event : Event) (c : CarriedBytes) → IsOwnEvent id event
    → same_id c.id id ≡ false → IsMarked history c → IsMarked (event ∷ history) c
event_marked history id (Event.Refuse y) c e but m = record {
  refused = m.refused ∙ sym (ap (λ (q : Bool). q || has_refusal history c.id) (other_id id c.id y e but));
  shown = m.shown;
  apart = m.apart;
  saved = m.saved;
}
event_marked history id (Event.Run y) c e but m = record {
  refused = m.refused;
  shown = m.shown ∙ sym (ap (λ (q : Bool). q || has_answer history c.id) (other_id id c.id y e but));
  apart = m.apart;
  saved = m.saved;
}
event_marked history id (Event.Fail y code) c e but m = record {
  refused = m.refused;
  shown = m.shown ∙ sym (ap (λ (q : Bool). q || has_answer history c.id) (other_id id c.id y e but));
  apart = m.apart;
  saved = m.saved;
}
event_marked history id (Event.Aborted host target unit what) c e but m = absurd e
event_marked history id (Event.Reset dev) c e but m = absurd e
event_marked history id _ c e but m = record { refused = m.refused; shown = m.shown; apart = m.apart; saved = m.saved }

pub others_marked : (history : List Event) (id : ProcId) (list : List Event) (c : CarriedBytes) → AreOwnEvents id list
    → same_id c.id id ≡ false → IsMarked history c → IsMarked (list ++ history) c
others_marked history id [] c e but m = m
others_marked history id (event ∷ list) c e but m =
    event_marked (list ++ history) id event c e.0 but (others_marked history id list c e.1 but m)

-- ---- its own marks, as a phase is left

accepted : (history : List Event) (c : CarriedBytes) → IsMarked history c → IsMarked (Event.Accept c.id ∷ history) c
accepted history c m = record { refused = m.refused; shown = m.shown; apart = m.apart; saved = m.saved }

refused : (history : List Event) (c : CarriedBytes) → c.shown ≡ false → IsMarked history c
    → IsMarked (Event.Refuse c.id ∷ history) (marked_refused c)
refused history c e m = record {
  refused = sym (ap (λ (q : Bool). q || has_refusal history c.id) (self_id c.id));
  shown = m.shown;
  apart = λ f. e;
  saved = m.saved;
}

answered : (history : List Event) (c : CarriedBytes) (failure : Option ℕ) → c.refused ≡ false → IsMarked history c
    → IsMarked (status_event c.id failure ∷ history) (marked_shown c)
answered history c None e m = record {
  refused = m.refused;
  shown = sym (ap (λ (q : Bool). q || has_answer history c.id) (self_id c.id));
  apart = λ f. wrong (sym f ∙ e);
  saved = m.saved;
}
answered history c (Some code) e m = record {
  refused = m.refused;
  shown = sym (ap (λ (q : Bool). q || has_answer history c.id) (self_id c.id));
  apart = λ f. wrong (sym f ∙ e);
  saved = m.saved;
}

by_turn : (history : List Event) (c : CarriedBytes) (arrived shown : List Event) → marked_with c arrived ≡ c
    → Turn c arrived shown → IsMarked (arrived ++ history) c → IsMarked (shown ++ history) (marked_with c shown)
by_turn history c arrived shown e (quiet same told) m = subst (λ (list : List Event). IsMarked (list ++ history)
    (marked_with c list)) (sym same) (subst (λ (x : CarriedBytes). IsMarked (arrived ++ history) x) (sym e) m)
by_turn history c arrived shown e (shows same unrefused unshown) m = subst
    (λ (list : List Event). IsMarked (list ++ history) (marked_with c list)) (sym same)
    (subst (λ (x : CarriedBytes). IsMarked (status_event c.id c.failure ∷ arrived ++ history) x)
    (sym (event_mark c arrived e)) (answered (arrived ++ history) c c.failure unrefused m))

pub turn_marks : (history : List Event) (c : CarriedBytes) (whole room begins : Bool)
    → (whole ≡ true → c.shown ≡ false) → IsMarked history c
    → IsMarked (turn_events begins c (arrivals whole room c.id) ++ history)
    (marked_with c (turn_events begins c (arrivals whole room c.id)))
turn_marks history c false room false first m = m
turn_marks history c true true false first m = accepted history c m
turn_marks history c true false false first m = refused history c (first refl) m
turn_marks history c false room true first m = by_turn history c [] (turn_events true c []) refl (turn c [] refl) m
turn_marks history c true true true first m = by_turn history c (Event.Accept c.id ∷ [])
    (turn_events true c (Event.Accept c.id ∷ [])) refl (turn c (Event.Accept c.id ∷ []) refl) (accepted history c m)
turn_marks history c true false true first m = subst (λ (list : List Event). IsMarked (list ++ history)
    (marked_with c list)) (sym (refused_turn c c.id)) (refused history c (first refl) m)

-- ---- they are its own events

arrival_own : (whole room : Bool) (x id : ProcId) → x ≡ id → AreOwnEvents id (arrivals whole room x)
arrival_own true true x id e = (e, tt)
arrival_own true false x id e = (e, tt)
arrival_own false room x id e = tt

answer_own : (q : Bool) (x id : ProcId) (failure : Option ℕ) (arrived : List Event) → x ≡ id → AreOwnEvents id arrived
    → AreOwnEvents id (if q then status_event x failure ∷ arrived else arrived)
answer_own true x id None arrived e h = (e, h)
answer_own true x id (Some code) arrived e h = (e, h)
answer_own false x id failure arrived e h = h

pub turn_own : (c : CarriedBytes) (whole room begins : Bool) (id : ProcId) → c.id ≡ id
    → AreOwnEvents id (turn_events begins c (arrivals whole room c.id))
turn_own c whole room begins id e = answer_own
    (begins && not c.shown && not c.refused && not (list_any (λ x. is_refuse x) (arrivals whole room c.id))) c.id id
    c.failure (arrivals whole room c.id) e (arrival_own whole room c.id id e)
