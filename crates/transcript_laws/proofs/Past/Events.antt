-- One connection more: its items show its events, and those before stay as they are.
use Rattle.transcript_laws.proofs
use proofs.Names.{◌≡◌, ◌∙◌, ◌+◌, ◌==◌, Bool, true, false, ◌||◌, List, [], ◌∷◌, ◌++◌, length, reverse, Option, Some}
use proofs.Names.{refl, sym, ap, subst, or_right, or_left, flat_map-append, reverse-append, length-append, flat_map}
use proofs.Names.{list_any, wrong', Event, ProcId, process, has_item, id_is, name_begun, names_begun, name_sent}
use proofs.Names.{event_shown, items_if, items_told, named_events, Name, IsEventOf, AreEventsOf, IsEventSent}
use proofs.Names.{AreEventsSent, items_by, AreRefused, IsPast, is_refusal, is_answer, has_refusal, has_answer}
use proofs.{Names.{shown_items}, Processes.Sent.{name_before, name_later, has_append}}
use Rattle.bus_transcript.specs.declared.item.Item.{Item}
use Rattle.due_model.specs.story_model.specs.Items as told

-- ---- what was said before

told_before : (sent more : List told.Item) (names later : List Name) (event : Event) → length names ≡ length sent
    → IsEventSent sent event → items_told (sent ++ more) (names ++ later) event ≡ items_told sent names event
told_before sent more names later (Event.Accept id) count has =
    ap (λ (o : Option Name). items_if o (Event.Accept id)) (name_before sent more names later id count has)
told_before sent more names later (Event.Refuse id) count has =
    ap (λ (o : Option Name). items_if o (Event.Refuse id)) (name_before sent more names later id count has)
told_before sent more names later (Event.Run id) count has =
    ap (λ (o : Option Name). items_if o (Event.Run id)) (name_before sent more names later id count has)
told_before sent more names later (Event.Fail id code) count has =
    ap (λ (o : Option Name). items_if o (Event.Fail id code)) (name_before sent more names later id count has)
told_before sent more names later (Event.End id status) count has =
    ap (λ (o : Option Name). items_if o (Event.End id status)) (name_before sent more names later id count has)
told_before sent more names later (Event.Lost id) count has =
    ap (λ (o : Option Name). items_if o (Event.Lost id)) (name_before sent more names later id count has)
told_before sent more names later (Event.Aborted host target unit what) count has = refl
told_before sent more names later (Event.Reset dev) count has = refl

all_before : (sent more : List told.Item) (names later : List Name) (list : List Event) → length names ≡ length sent
    → AreEventsSent sent list → named_events (sent ++ more) (names ++ later) list ≡ named_events sent names list
all_before sent more names later [] count has = refl
all_before sent more names later (event ∷ list) count has =
    λ i. told_before sent more names later event count has.0 i ++ all_before sent more names later list count has.1 i

sent_append : (sent : List told.Item) (xs ys : List Event) → AreEventsSent sent xs → AreEventsSent sent ys
    → AreEventsSent sent (xs ++ ys)
sent_append sent [] ys a b = b
sent_append sent (x ∷ xs) ys a b = (a.0, sent_append sent xs ys a.1 b)

pub sent_reverse : (sent : List told.Item) (xs : List Event) → AreEventsSent sent xs → AreEventsSent sent (reverse xs)
sent_reverse sent [] a = tt
sent_reverse sent (x ∷ xs) a = subst (AreEventsSent sent) (sym (reverse-append (x ∷ []) xs))
    (sent_append sent (reverse xs) (x ∷ []) (sent_reverse sent xs a.1) (a.0, tt))

-- ---- what the connection says

told_by : (sent : List told.Item) (names : List Name) (id : ProcId) (event : Event) → IsEventOf id event
    → items_told sent names event ≡ items_by (name_sent sent names id) event
told_by sent names id (Event.Accept x) e = ap (λ (y : ProcId). items_if (name_sent sent names y) (Event.Accept x)) e
told_by sent names id (Event.Refuse x) e = ap (λ (y : ProcId). items_if (name_sent sent names y) (Event.Refuse x)) e
told_by sent names id (Event.Run x) e = ap (λ (y : ProcId). items_if (name_sent sent names y) (Event.Run x)) e
told_by sent names id (Event.Fail x code) e =
    ap (λ (y : ProcId). items_if (name_sent sent names y) (Event.Fail x code)) e
told_by sent names id (Event.End x status) e =
    ap (λ (y : ProcId). items_if (name_sent sent names y) (Event.End x status)) e
told_by sent names id (Event.Lost x) e = ap (λ (y : ProcId). items_if (name_sent sent names y) (Event.Lost x)) e
told_by sent names id (Event.Aborted host target unit what) e = refl
told_by sent names id (Event.Reset dev) e = refl

pub all_by : (sent : List told.Item) (names : List Name) (id : ProcId) (list : List Event) → AreEventsOf id list
    → named_events sent names list ≡ flat_map (λ event. items_by (name_sent sent names id) event) list
all_by sent names id [] e = refl
all_by sent names id (event ∷ list) e = λ i. told_by sent names id event e.0 i ++ all_by sent names id list e.1 i

-- ---- what is refused

pub any_later : (t : Event → Bool) (conn history : List Event) → list_any t history ≡ true
    → list_any t (conn ++ history) ≡ true
any_later t [] history e = e
any_later t (x ∷ conn) history e = or_right (t x) (list_any t (conn ++ history)) (any_later t conn history e)

one_refusal : (sent : List told.Item) (event : Event) (id : ProcId) → IsEventSent sent event
    → is_refusal id event ≡ true → has_item sent (process id) ≡ true
one_refusal sent (Event.Refuse x) id known e =
    ap (λ (y : ProcId). has_item sent (process y)) (sym (id_is x id e)) ∙ known
one_refusal sent _ id known e = wrong' e

refusal_sent : (sent : List told.Item) (list : List Event) (id : ProcId) → AreEventsSent sent list
    → has_refusal list id ≡ true → has_item sent (process id) ≡ true
refusal_sent sent [] id known e = wrong' e
refusal_sent sent (event ∷ list) id known e = go (is_refusal id event) refl e (λ z. refusal_sent sent list id known.1 z)
  where
    go : (q : Bool) → is_refusal id event ≡ q → (q || has_refusal list id) ≡ true
        → (has_refusal list id ≡ true → has_item sent (process id) ≡ true) → has_item sent (process id) ≡ true
    go true f z rest = one_refusal sent event id known.0 f
    go false f z rest = rest z

one_answer : (sent : List told.Item) (event : Event) (id : ProcId) → IsEventSent sent event → is_answer id event ≡ true
    → has_item sent (process id) ≡ true
one_answer sent (Event.Run x) id known e = ap (λ (y : ProcId). has_item sent (process y)) (sym (id_is x id e)) ∙ known
one_answer sent (Event.Fail x code) id known e =
    ap (λ (y : ProcId). has_item sent (process y)) (sym (id_is x id e)) ∙ known
one_answer sent _ id known e = wrong' e

answer_sent : (sent : List told.Item) (list : List Event) (id : ProcId) → AreEventsSent sent list
    → has_answer list id ≡ true → has_item sent (process id) ≡ true
answer_sent sent [] id known e = wrong' e
answer_sent sent (event ∷ list) id known e = go (is_answer id event) refl e (λ z. answer_sent sent list id known.1 z)
  where
    go : (q : Bool) → is_answer id event ≡ q → (q || has_answer list id) ≡ true
        → (has_answer list id ≡ true → has_item sent (process id) ≡ true) → has_item sent (process id) ≡ true
    go true f z rest = one_answer sent event id known.0 f
    go false f z rest = rest z

-- The names that are refused after more are so before it, of what was sent before it.
pub refused_before :
    (refused : List Name) (sent more : List told.Item) (names later : List Name) (conn history : List Event)
    → length names ≡ length sent → AreEventsSent sent history
    → AreRefused refused (sent ++ more) (names ++ later) (conn ++ history) → AreRefused refused sent names history
refused_before refused sent more names later conn history count known h = record {
  refusals = λ id name has named. h.refusals id name (any_later (λ e. is_refusal id e) conn history has)
      (name_before sent more names later id count (refusal_sent sent history id known has) ∙ named);
  answers = λ id name has named. h.answers id name (any_later (λ e. is_answer id e) conn history has)
      (name_before sent more names later id count (answer_sent sent history id known has) ∙ named);
}

-- ---- a connection more

pub names_append : (xs ys : List Item) → names_begun (xs ++ ys) ≡ names_begun xs ++ names_begun ys
names_append xs ys = flat_map-append name_begun xs ys

pub shown_append : (refused : List Name) (xs ys : List Item)
    → shown_items refused (xs ++ ys) ≡ shown_items refused xs ++ shown_items refused ys
shown_append refused xs ys = flat_map-append (λ item. event_shown refused item) xs ys

pub named_append : (sent : List told.Item) (names : List Name) (xs ys : List Event)
    → named_events sent names (xs ++ ys) ≡ named_events sent names xs ++ named_events sent names ys
named_append sent names xs ys = flat_map-append (λ event. items_told sent names event) xs ys

-- What a connection adds: items with the names that it begins, and events with what is sent.
pub record Adds (sent more : List told.Item) (names : List Name) (new : List Item) (conn history : List Event) : Type
    0 where
  pub count : length (names_begun new) ≡ length more
  pub known : AreEventsSent (sent ++ more) conn
  pub numbers : (id : ProcId) (name : Name) → name_sent more (names_begun new) id ≡ Some name
      → (name.number == 0) ≡ false
  pub shown : (refused : List Name) → AreRefused refused (sent ++ more) (names ++ names_begun new) (conn ++ history)
      → shown_items refused new ≡ named_events (sent ++ more) (names ++ names_begun new) (reverse conn)

sent_more : (sent more : List told.Item) (event : Event) → IsEventSent sent event → IsEventSent (sent ++ more) event
sent_more sent more (Event.Accept id) has =
    has_append sent more (process id) ∙ or_left (has_item sent (process id)) (has_item more (process id)) has
sent_more sent more (Event.Refuse id) has =
    has_append sent more (process id) ∙ or_left (has_item sent (process id)) (has_item more (process id)) has
sent_more sent more (Event.Run id) has =
    has_append sent more (process id) ∙ or_left (has_item sent (process id)) (has_item more (process id)) has
sent_more sent more (Event.Fail id code) has =
    has_append sent more (process id) ∙ or_left (has_item sent (process id)) (has_item more (process id)) has
sent_more sent more (Event.End id status) has =
    has_append sent more (process id) ∙ or_left (has_item sent (process id)) (has_item more (process id)) has
sent_more sent more (Event.Lost id) has =
    has_append sent more (process id) ∙ or_left (has_item sent (process id)) (has_item more (process id)) has
sent_more sent more (Event.Aborted host target unit what) has = tt
sent_more sent more (Event.Reset dev) has = tt

all_more : (sent more : List told.Item) (list : List Event) → AreEventsSent sent list
    → AreEventsSent (sent ++ more) list
all_more sent more [] known = tt
all_more sent more (event ∷ list) known = (sent_more sent more event known.0, all_more sent more list known.1)

pub past_more : (list new : List Item) (sent more : List told.Item) (conn history : List Event)
    → IsPast list sent history → Adds sent more (names_begun list) new conn history
    → IsPast (list ++ new) (sent ++ more) (conn ++ history)
past_more list new sent more conn history past adds = record {
  count = ap length (names_append list new) ∙ length-append (names_begun list) (names_begun new)
      ∙ (λ i. past.count i + adds.count i) ∙ sym (length-append sent more);
  known = sent_append (sent ++ more) conn history adds.known (all_more sent more history past.known);
  numbers = λ id name e. by_sent id name (has_item sent (process id)) refl
      (ap (λ (names : List Name). name_sent (sent ++ more) names id) (sym (names_append list new)) ∙ e);
  shown = λ refused h.
      let g : AreRefused refused (sent ++ more) (names_begun list ++ names_begun new) (conn ++ history) = subst
      (λ (names : List Name). AreRefused refused (sent ++ more) names (conn ++ history)) (names_append list new) h in
      shown_append refused list new ∙ (λ i. past.shown refused
      (refused_before refused sent more (names_begun list) (names_begun new) conn history past.count past.known g) i
      ++ adds.shown refused g i)
      ∙ (λ i. sym (all_before sent more (names_begun list) (names_begun new)
      (reverse history) past.count (sent_reverse sent history past.known)) i
      ++ named_events (sent ++ more) (names_begun list ++ names_begun new) (reverse conn))
      ∙ sym (named_append (sent ++ more) (names_begun list ++ names_begun new) (reverse history) (reverse conn))
      ∙ ap (λ (xs : List Event). named_events (sent ++ more) (names_begun list ++ names_begun new) xs)
      (sym (reverse-append conn history))
      ∙ ap (λ (names : List Name). named_events (sent ++ more) names (reverse (conn ++ history)))
      (sym (names_append list new));
}
  where
    by_sent : (id : ProcId) (name : Name) (q : Bool) → has_item sent (process id) ≡ q
        → name_sent (sent ++ more) (names_begun list ++ names_begun new) id ≡ Some name → (name.number == 0) ≡ false
    by_sent id name true has e =
        past.numbers id name (sym (name_before sent more (names_begun list) (names_begun new) id past.count has) ∙ e)
    by_sent id name false has e =
        adds.numbers id name (sym (name_later sent more (names_begun list) (names_begun new) id past.count has) ∙ e)
