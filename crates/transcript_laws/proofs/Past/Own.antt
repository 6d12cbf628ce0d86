-- The connection of a process is over: its items and its events are as those before.
use Rattle.transcript_laws.proofs
use proofs.Names.{ℕ, ◌≡◌, ◌∙◌, Bool, true, false, List, [], ◌∷◌, ◌++◌, length, reverse, Option, Some, None, refl, sym}
use proofs.Names.{ap, subst, ◌||◌, ◌==◌, or_right, append_assoc, append-nil, reverse-append, same_Some, flat_map}
use proofs.Names.{if◌then◌else◌, Event, ProcId, Connection, MsgOut, same_id, CarriedBytes, process, has_item, self_id}
use proofs.Names.{none_some, account_of, names_begun, name_sent, items_named, items_if, named_events, OpenedValue, Name}
use proofs.Names.{Part, Process, Departure, Loss, Leave, Abortion, Summary, IsOwnEvent, AreOwnEvents, IsEventSent}
use proofs.Names.{AreEventsSent, AreRefused, IsPast, IsAsBegun, IsRefused, IsServing, account_base, has_refusal}
use proofs.{Names.{has_answer, shown_items}, Parts.Shown.{parts_names}, Past.Closings.{account_by, abort_items}}
use proofs.Past.{Closings.{departure_items, leaving_items, connection_items}, Events.{names_append, shown_append, Adds}}
use proofs.{Past.Events.{past_more}, Processes.Sent.{name_own, has_append}, Serving.Steps.{conn_items}}
use proofs.Serving.Turns.{conn_append, refused_less}
use Rattle.bus_transcript.specs.declared.item.Item.{Item}
use Rattle.due_model.specs.story_model.specs.Items as told

-- ---- the events of a process, with its name

one_named : (sent : List told.Item) (names : List Name) (id : ProcId) (name : Name) (event : Event)
    → IsOwnEvent id event → name_sent sent names id ≡ Some name
    → named_events sent names (event ∷ []) ≡ items_named name event ++ []
one_named sent names id name (Event.Accept x) e named =
    ap (λ (o : Option Name). items_if o (Event.Accept x) ++ []) (ap (λ (y : ProcId). name_sent sent names y) e ∙ named)
one_named sent names id name (Event.Refuse x) e named =
    ap (λ (o : Option Name). items_if o (Event.Refuse x) ++ []) (ap (λ (y : ProcId). name_sent sent names y) e ∙ named)
one_named sent names id name (Event.Run x) e named =
    ap (λ (o : Option Name). items_if o (Event.Run x) ++ []) (ap (λ (y : ProcId). name_sent sent names y) e ∙ named)
one_named sent names id name (Event.Fail x code) e named = ap
    (λ (o : Option Name). items_if o (Event.Fail x code) ++ []) (ap (λ (y : ProcId). name_sent sent names y) e ∙ named)
one_named sent names id name (Event.End x status) e named = ap
    (λ (o : Option Name). items_if o (Event.End x status) ++ []) (ap (λ (y : ProcId). name_sent sent names y) e ∙ named)
one_named sent names id name (Event.Lost x) e named =
    ap (λ (o : Option Name). items_if o (Event.Lost x) ++ []) (ap (λ (y : ProcId). name_sent sent names y) e ∙ named)
one_named sent names id name (Event.Aborted host target unit what) e named = absurd e
one_named sent names id name (Event.Reset dev) e named = absurd e

own_named : (sent : List told.Item) (names : List Name) (id : ProcId) (name : Name) (list : List Event)
    → AreOwnEvents id list → name_sent sent names id ≡ Some name
    → named_events sent names list ≡ flat_map (λ event. items_named name event) list
own_named sent names id name [] e named = refl
own_named sent names id name (event ∷ list) e named =
    λ i. (sym (append-nil _) ∙ one_named sent names id name event e.0 named ∙ append-nil (items_named name event)) i
    ++ own_named sent names id name list e.1 named i

one_sent : (sent : List told.Item) (id : ProcId) (event : Event) → has_item sent (process id) ≡ true
    → IsOwnEvent id event → IsEventSent sent event
one_sent sent id (Event.Aborted host target unit what) has e = absurd e
one_sent sent id (Event.Reset dev) has e = absurd e
one_sent sent id _ has e = ap (λ (y : ProcId). has_item sent (process y)) e ∙ has

own_sent : (sent : List told.Item) (id : ProcId) (list : List Event) → has_item sent (process id) ≡ true
    → AreOwnEvents id list → AreEventsSent sent list
own_sent sent id [] has e = tt
own_sent sent id (event ∷ list) has e = (one_sent sent id event has e.0, own_sent sent id list has e.1)

pub own_append : (id : ProcId) (xs ys : List Event) → AreOwnEvents id xs → AreOwnEvents id ys
    → AreOwnEvents id (xs ++ ys)
own_append id [] ys e f = f
own_append id (x ∷ xs) ys e f = (e.0, own_append id xs ys e.1 f)

own_reverse : (id : ProcId) (xs : List Event) → AreOwnEvents id xs → AreOwnEvents id (reverse xs)
own_reverse id [] e = tt
own_reverse id (x ∷ xs) e = subst (AreOwnEvents id) (sym (reverse-append (x ∷ []) xs))
    (own_append id (reverse xs) (x ∷ []) (own_reverse id xs e.1) (e.0, tt))

-- ---- the names that it begins

abort_names : (name : Name) (abort : Option MsgOut) → names_begun (abort_items name abort) ≡ []
abort_names name None = refl
abort_names name (Some m) = refl

departure_names : (name : Name) (d : Departure) (abort : Option MsgOut)
    → names_begun (departure_items name d abort) ≡ []
departure_names name Loss abort = refl
departure_names name Leave abort = refl
departure_names name Abortion abort = abort_names name abort

leaving_names : (free : Bool) (name : Name) (u : Summary) → names_begun (leaving_items free name u) ≡ []
leaving_names true name u = departure_names name u.departure u.abort
leaving_names false name u = refl

pub connection_names : (n : Connection) (c : Process) (parts : List Part) (free : Bool) (u : Summary)
    → names_begun (connection_items n c parts free u) ≡ (if n.reselected then [] else c.name ∷ [])
connection_names n c parts free u = ap (λ (xs : List Name). (if n.reselected then [] else c.name ∷ []) ++ xs)
    (names_append (account_by c parts).items (leaving_items free c.name u)
    ∙ (λ i. parts_names (account_of c []) parts i ++ leaving_names free c.name u i))
    ∙ append-nil (if n.reselected then [] else c.name ∷ [])

-- ---- it is over

-- As BUS FREE comes its process is lost, or has ended or is disconnected; or the connection is cut, or stands.
pub data Leaves (id : ProcId) (name : Name) (list : List Item) : List Event → Type 0 where
  loses : list ≡ Item.Lost name ∷ [] → Leaves id name list (Event.Lost id ∷ [])
  leaves : list ≡ [] → Leaves id name list []

leaves_shown : (refused : List Name) (id : ProcId) (name : Name) (list : List Item) (more : List Event)
    → Leaves id name list more → shown_items refused list ≡ conn_items name more
leaves_shown refused id name list more (loses e) = ap (λ (xs : List Item). shown_items refused xs) e
leaves_shown refused id name list more (leaves e) = ap (λ (xs : List Item). shown_items refused xs) e

leaves_own : (id : ProcId) (name : Name) (list : List Item) (more : List Event) → Leaves id name list more
    → AreOwnEvents id more
leaves_own id name list more (loses e) = (refl, tt)
leaves_own id name list more (leaves e) = tt

-- Of a connection of a known process with these parts.
pub record IsClosing (o : OpenedValue) (commands : Bool) (id : ProcId) (now back : CarriedBytes)
    (conn history : List Event) (was : Bool) (st : Option ℕ) (n : Connection) (c : Process) (parts : List Part)
    (free : Bool) (u : Summary) (more : List Event) : Type 0 where
  pub serving : IsServing o commands id now back conn (conn ++ history) was st
  pub begun : IsAsBegun c was st
  pub own : AreOwnEvents id conn
  pub shown : (refused : List Name)
      → shown_items refused (account_by c parts).items ≡ shown_items refused (account_base o c).items
  pub leaves : Leaves id c.name (leaving_items free c.name u) more

own_adds : (o : OpenedValue) (commands : Bool) (id : ProcId) (now back : CarriedBytes)
    (conn history : List Event) (was : Bool) (st : Option ℕ) (n : Connection) (c : Process) (parts : List Part)
    (free : Bool) (u : Summary) (more : List Event) (sent sending : List told.Item) (names : List Name)
    → IsClosing o commands id now back conn history was st n c parts free u more
    → has_item (sent ++ sending) (process id) ≡ true
    → length (names_begun (connection_items n c parts free u)) ≡ length sending → ((x : ProcId) (name : Name)
    → name_sent sending (names_begun (connection_items n c parts free u)) x ≡ Some name → (name.number == 0) ≡ false)
    → name_sent (sent ++ sending) (names ++ names_begun (connection_items n c parts free u)) id ≡ Some c.name
    → Adds sent sending names (connection_items n c parts free u) (more ++ conn) history
own_adds o commands id now back conn history was st n c parts free u more sent sending names h has count numbers named =
    record {
      count = count;
      known = own_sent (sent ++ sending) id (more ++ conn) has own;
      numbers = numbers;
      shown = λ refused r. shown_append refused (account_by c parts).items (leaving_items free c.name u)
          ∙ (λ i. (h.shown refused ∙ h.serving.told refused c h.begun (before refused r)) i
          ++ leaves_shown refused id c.name (leaving_items free c.name u) more h.leaves i)
          ∙ sym (conn_append c.name more conn)
          ∙ sym (own_named (sent ++ sending) (names ++ names_begun (connection_items n c parts free u)) id c.name
          (reverse (more ++ conn)) (own_reverse id (more ++ conn) own) named);
    }
  where
    own : AreOwnEvents id (more ++ conn)
    own = own_append id more conn (leaves_own id c.name (leaving_items free c.name u) more h.leaves) h.own

    before : (refused : List Name) → AreRefused refused (sent ++ sending)
        (names ++ names_begun (connection_items n c parts free u)) ((more ++ conn) ++ history)
        → IsRefused refused c.name id (conn ++ history)
    before refused r = refused_less refused c.name id more (conn ++ history) (record {
      refusal = λ e. r.refusals id c.name
          (ap (λ (list : List Event). has_refusal list id) (append_assoc more conn history) ∙ e) named;
      answer = λ e. r.answers id c.name
          (ap (λ (list : List Event). has_answer list id) (append_assoc more conn history) ∙ e) named;
    })

or_one : (id : ProcId) → has_item (process id ∷ []) (process id) ≡ true
or_one id = ap (λ (q : Bool). q || false) (self_id id)

one_number : (id x : ProcId) (own name : Name) → (own.number == 0) ≡ false
    → name_sent (process id ∷ []) (own ∷ []) x ≡ Some name → (name.number == 0) ≡ false
one_number id x own name number e = go (same_id id x) e
  where
    go : (q : Bool) → (if q then Some own else None) ≡ Some name → (name.number == 0) ≡ false
    go true f = ap (λ (y : Name). y.number == 0) (sym (same_Some own name f)) ∙ number
    go false f = none_some name f

-- An initiator began it, for a process that was not sent before.
pub first_past : (o : OpenedValue) (commands : Bool) (id : ProcId) (now back : CarriedBytes)
    (conn history : List Event) (was : Bool) (st : Option ℕ) (n : Connection) (c : Process) (parts : List Part)
    (free : Bool) (u : Summary) (more : List Event) (list : List Item) (sent : List told.Item)
    → n.reselected ≡ false → has_item sent (process id) ≡ false → (c.name.number == 0) ≡ false
    → IsClosing o commands id now back conn history was st n c parts free u more → IsPast list sent history
    → IsPast (list ++ connection_items n c parts free u) (sent ++ process id ∷ []) ((more ++ conn) ++ history)
first_past o commands id now back conn history was st n c parts free u more list sent began fresh number h past =
    let names : names_begun (connection_items n c parts free u) ≡ c.name ∷ [] = connection_names n c parts free u
    ∙ ap (λ (q : Bool). if q then [] else c.name ∷ []) began in
    past_more list (connection_items n c parts free u) sent (process id ∷ []) (more ++ conn) history past
    (own_adds o commands id now back conn history was st n c parts free u more sent
    (process id ∷ []) (names_begun list) h (has_append sent (process id ∷ []) (process id)
    ∙ or_right (has_item sent (process id)) (has_item (process id ∷ []) (process id)) (or_one id))
    (ap length names) (λ x name e. one_number id x c.name name number
    (ap (λ (xs : List Name). name_sent (process id ∷ []) xs x) (sym names) ∙ e))
    (ap (λ (xs : List Name). name_sent (sent ++ process id ∷ []) (names_begun list ++ xs) id) names
    ∙ name_own sent (names_begun list) c.name id past.count fresh))

-- A target began it, for a process that has this name.
pub again_past : (o : OpenedValue) (commands : Bool) (id : ProcId) (now back : CarriedBytes)
    (conn history : List Event) (was : Bool) (st : Option ℕ) (n : Connection) (c : Process) (parts : List Part)
    (free : Bool) (u : Summary) (more : List Event) (list : List Item) (sent : List told.Item)
    → n.reselected ≡ true → has_item sent (process id) ≡ true → name_sent sent (names_begun list) id ≡ Some c.name
    → IsClosing o commands id now back conn history was st n c parts free u more → IsPast list sent history
    → IsPast (list ++ connection_items n c parts free u) sent ((more ++ conn) ++ history)
again_past o commands id now back conn history was st n c parts free u more list sent again has named h past =
    let names : names_begun (connection_items n c parts free u) ≡ [] = connection_names n c parts free u
    ∙ ap (λ (q : Bool). if q then [] else c.name ∷ []) again in
    subst (λ (xs : List told.Item). IsPast (list ++ connection_items n c parts free u) xs ((more ++ conn) ++ history))
    (append-nil sent) (past_more list (connection_items n c parts free u) sent [] (more ++ conn) history past
    (own_adds o commands id now back conn history was st n c parts free u more sent []
    (names_begun list) h (ap (λ (xs : List told.Item). has_item xs (process id)) (append-nil sent) ∙ has)
    (ap length names) (λ x name e. none_some name e) ((λ i. name_sent (append-nil sent i)
    ((ap (λ (xs : List Name). names_begun list ++ xs) names ∙ append-nil (names_begun list)) i) id) ∙ named)))
