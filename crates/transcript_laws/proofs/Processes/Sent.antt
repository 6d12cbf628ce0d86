-- The names of the processes that were sent: those of the connections that initiators began, in their order.
use Rattle.transcript_laws.proofs
use proofs.Names.{◌≡◌, ◌∙◌, Bool, true, false, ◌||◌, List, [], ◌∷◌, ◌++◌, length, reverse, Some, None, refl, ap, arith}
use proofs.Names.{reverse-append, if◌then◌else◌, wrong, wrong', or_later, ProcId, Item, process, same_item, has_item}
use proofs.Names.{self_id, name_sent, Name}

-- What was sent keeps its name.
pub name_before : (sent more : List Item) (names later : List Name) (id : ProcId) → length names ≡ length sent
    → has_item sent (process id) ≡ true → name_sent (sent ++ more) (names ++ later) id ≡ name_sent sent names id
name_before [] more names later id count has = wrong' has
name_before (item ∷ sent) more [] later id count has = absurd (omega (arith, count))
name_before (item ∷ sent) more (name ∷ names) later id count has =
    go (same_item item (process id)) has (λ e. name_before sent more names later id (omega (arith, count)) e)
  where
    go : (q : Bool) → (q || has_item sent (process id)) ≡ true
        → (has_item sent (process id) ≡ true → name_sent (sent ++ more) (names ++ later) id ≡ name_sent sent names id)
        → (if q then Some name else name_sent (sent ++ more) (names ++ later) id)
        ≡ (if q then Some name else name_sent sent names id)
    go true e rest = refl
    go false e rest = rest e

-- What was not sent has a name among the later ones.
pub name_later : (sent more : List Item) (names later : List Name) (id : ProcId) → length names ≡ length sent
    → has_item sent (process id) ≡ false → name_sent (sent ++ more) (names ++ later) id ≡ name_sent more later id
name_later [] more [] later id count fresh = refl
name_later [] more (n ∷ names) later id count fresh = absurd (omega (arith, count))
name_later (item ∷ sent) more [] later id count fresh = absurd (omega (arith, count))
name_later (item ∷ sent) more (name ∷ names) later id count fresh =
    go (same_item item (process id)) fresh (λ e. name_later sent more names later id (omega (arith, count)) e)
  where
    go : (q : Bool) → (q || has_item sent (process id)) ≡ false
        → (has_item sent (process id) ≡ false → name_sent (sent ++ more) (names ++ later) id ≡ name_sent more later id)
        → (if q then Some name else name_sent (sent ++ more) (names ++ later) id) ≡ name_sent more later id
    go true e rest = wrong e
    go false e rest = rest e

-- And what is sent anew has that of its connection.
pub name_own : (sent : List Item) (names : List Name) (name : Name) (id : ProcId) → length names ≡ length sent
    → has_item sent (process id) ≡ false → name_sent (sent ++ process id ∷ []) (names ++ name ∷ []) id ≡ Some name
name_own [] [] name id count fresh = ap (λ (q : Bool). if q then Some name else None) (self_id id)
name_own [] (n ∷ names) name id count fresh = absurd (omega (arith, count))
name_own (item ∷ sent) [] name id count fresh = absurd (omega (arith, count))
name_own (item ∷ sent) (n ∷ names) name id count fresh =
    go (same_item item (process id)) fresh (λ e. name_own sent names name id (omega (arith, count)) e)
  where
    go : (q : Bool) → (q || has_item sent (process id)) ≡ false
        → (has_item sent (process id) ≡ false → name_sent (sent ++ process id ∷ []) (names ++ name ∷ []) id ≡ Some name)
        → (if q then Some n else name_sent (sent ++ process id ∷ []) (names ++ name ∷ []) id) ≡ Some name
    go true e rest = wrong e
    go false e rest = rest e

-- ---- whichever way the list runs

pub has_append : (xs ys : List Item) (item : Item) → has_item (xs ++ ys) item ≡ (has_item xs item || has_item ys item)
has_append [] ys item = refl
has_append (x ∷ xs) ys item = ap (λ (q : Bool). same_item x item || q) (has_append xs ys item)
    ∙ or_later (same_item x item) (has_item xs item) (has_item ys item)

pub or_turned : (a b : Bool) → (a || (b || false)) ≡ (b || a)
or_turned true true = refl
or_turned true false = refl
or_turned false true = refl
or_turned false false = refl

pub has_reverse : (xs : List Item) (item : Item) → has_item (reverse xs) item ≡ has_item xs item
has_reverse [] item = refl
has_reverse (x ∷ xs) item =
    ap (λ (list : List Item). has_item list item) (reverse-append (x ∷ []) xs)
    ∙ has_append (reverse xs) (x ∷ []) item
    ∙ ap (λ (q : Bool). q || (same_item x item || false)) (has_reverse xs item)
    ∙ or_turned (has_item xs item) (same_item x item)
