-- Where all connections show their events, the transcript has the events of the history.
use Rattle.transcript_laws.proofs
use proofs.Names.{◌≡◌, ◌∙◌, Bool, true, false, ◌||◌, List, [], ◌∷◌, ◌++◌, reverse, Option, Some, None, refl, sym, ap}
use proofs.Names.{or_right, reverse-append, flat_map, list_any, wrong', or_later, Event, ProcId, Row, ScenarioValue}
use proofs.Names.{story, trace_history, self_id, id_is, name_same, same_name, names_begun, name_sent, named_if}
use proofs.Names.{refused_name, refused_names, TellsHistory, transcript_of, Name, IsPast, AreApart, is_refusal}
use proofs.{Names.{has_refusal, is_listed}, Processes.Sent.{or_turned}}
use Rattle.due_model.specs.story_model.specs.Items as told

-- ---- lists

any_append : {T : Type 0} (t : T → Bool) (xs ys : List T) → list_any t (xs ++ ys) ≡ (list_any t xs || list_any t ys)
any_append t [] ys = refl
any_append t (x ∷ xs) ys =
    ap (λ (q : Bool). t x || q) (any_append t xs ys) ∙ or_later (t x) (list_any t xs) (list_any t ys)

any_reverse : (t : Event → Bool) (xs : List Event) → list_any t (reverse xs) ≡ list_any t xs
any_reverse t [] = refl
any_reverse t (x ∷ xs) =
    ap (λ (list : List Event). list_any t list) (reverse-append (x ∷ []) xs)
    ∙ any_append t (reverse xs) (x ∷ [])
    ∙ ap (λ (q : Bool). q || (t x || false)) (any_reverse t xs)
    ∙ or_turned (list_any t xs) (t x)

-- ---- the names that are refused

one_listed : (sent : List told.Item) (names : List Name) (event : Event) (id : ProcId) (name : Name)
    → is_refusal id event ≡ true → name_sent sent names id ≡ Some name
    → is_listed (refused_name sent names event) name ≡ true
one_listed sent names (Event.Refuse x) id name e named = ap (λ (o : Option Name). is_listed (named_if o) name)
    (ap (λ (y : ProcId). name_sent sent names y) (id_is x id e) ∙ named)
    ∙ ap (λ (q : Bool). q || false) (name_same name)
one_listed sent names _ id name e named = wrong' e

listed : (sent : List told.Item) (names : List Name) (list : List Event) (id : ProcId) (name : Name)
    → has_refusal list id ≡ true → name_sent sent names id ≡ Some name
    → is_listed (flat_map (λ event. refused_name sent names event) list) name ≡ true
listed sent names [] id name e named = wrong' e
listed sent names (event ∷ list) id name e named =
    any_append (λ n. same_name n name) (refused_name sent names event) (flat_map (λ x. refused_name sent names x) list)
    ∙ go (is_refusal id event) refl e (λ z. listed sent names list id name z named)
  where
    go : (q : Bool) → is_refusal id event ≡ q → (q || has_refusal list id) ≡ true
        → (has_refusal list id ≡ true → is_listed (flat_map (λ x. refused_name sent names x) list) name ≡ true)
        → (is_listed (refused_name sent names event) name
        || is_listed (flat_map (λ x. refused_name sent names x) list) name) ≡ true
    go true f z rest = ap (λ (q : Bool). q || is_listed (flat_map (λ x. refused_name sent names x) list) name)
        (one_listed sent names event id name f named)
    go false f z rest = or_right (is_listed (refused_name sent names event) name)
        (is_listed (flat_map (λ x. refused_name sent names x) list) name) (rest z)

-- Of a refused process no name is this one.
abbrev IsOther : List told.Item → List Name → List Event → Name → Type 0
IsOther sent names list name =
    (x : ProcId) (a : Name) → has_refusal list x ≡ true → name_sent sent names x ≡ Some a → same_name a name ≡ false

unnamed : (o : Option Name) (name : Name) → ((a : Name) → o ≡ Some a → same_name a name ≡ false)
    → is_listed (named_if o) name ≡ false
unnamed None name other = refl
unnamed (Some a) name other = ap (λ (q : Bool). q || false) (other a refl)

one_unlisted : (sent : List told.Item) (names : List Name) (event : Event) (name : Name)
    → IsOther sent names (event ∷ []) name → is_listed (refused_name sent names event) name ≡ false
one_unlisted sent names (Event.Refuse x) name other =
    unnamed (name_sent sent names x) name (λ a e. other x a (ap (λ (q : Bool). q || false) (self_id x)) e)
one_unlisted sent names _ name other = refl

or_left : (r q : Bool) → (r || false) ≡ true → (r || q) ≡ true
or_left true q e = refl
or_left false q e = wrong' e

unlisted : (sent : List told.Item) (names : List Name) (list : List Event) (name : Name) → IsOther sent names list name
    → is_listed (flat_map (λ event. refused_name sent names event) list) name ≡ false
unlisted sent names [] name other = refl
unlisted sent names (event ∷ list) name other =
    any_append (λ n. same_name n name) (refused_name sent names event) (flat_map (λ x. refused_name sent names x) list)
    ∙ (λ i. one_unlisted sent names event name
    (λ x a e named. other x a (or_left (is_refusal x event) (has_refusal list x) e) named) i || unlisted sent names list
    name (λ x a e named. other x a (or_right (is_refusal x event) (has_refusal list x) e) named) i)

-- ---- the history

pub tells_history : (s : ScenarioValue) (rows : List Row)
    → IsPast (transcript_of rows) (reverse (story s rows).sent.sent) (trace_history s rows)
    → AreApart (reverse (story s rows).sent.sent) (names_begun (transcript_of rows)) (trace_history s rows)
    → TellsHistory s rows
tells_history s rows past are_apart = past.shown (refused_names s rows) (record {
  refusals = λ id name has named. listed (reverse (story s rows).sent.sent) (names_begun (transcript_of rows))
      (reverse (trace_history s rows)) id name (any_reverse (λ e. is_refusal id e) (trace_history s rows) ∙ has) named;
  answers = λ id name has named. unlisted (reverse (story s rows).sent.sent) (names_begun (transcript_of rows))
      (reverse (trace_history s rows)) name (λ x a e f. are_apart x id a name
      (sym (any_reverse (λ z. is_refusal x z) (trace_history s rows)) ∙ e) has f named);
})
