-- The names of processes that were sent are apart.
use Rattle.transcript_laws.proofs
use proofs.Names.{◌≡◌, ◌∙◌, ◌==◌, Bool, true, false, ◌&&◌, List, [], ◌∷◌, Some, refl, sym, ap, subst, same_Some}
use proofs.Names.{if◌then◌else◌, wrong, wrong', eq_turned, ProcId, same_id, Item, process, abort, same_item, id_is}
use proofs.Names.{none_some, same_name, name_sent, Name, OnNames, AreOther, AreDistinct}
use proofs.Processes.Last.{nexus_turned}

name_turned : (a b : Name) → same_name a b ≡ same_name b a
name_turned a b = λ i. nexus_turned a b i && eq_turned a.number b.number i

on_sent : (q : Name → Type 0) (sent : List Item) (names : List Name) (x : ProcId) (a : Name) → OnNames q names
    → name_sent sent names x ≡ Some a → q a
on_sent q [] names x a h e = none_some a e
on_sent q (item ∷ sent) [] x a h e = none_some a e
on_sent q (item ∷ sent) (n ∷ names) x a h e = go (same_item item (process x)) e (λ z. on_sent q sent names x a h.1 z)
  where
    go : (r : Bool) → (if r then Some n else name_sent sent names x) ≡ Some a
        → (name_sent sent names x ≡ Some a → q a) → q a
    go true z rest = subst q (same_Some n a z) h.0
    go false z rest = rest z

one_item : (item : Item) (x y : ProcId) → same_item item (process x) ≡ true → same_item item (process y) ≡ true
    → same_id x y ≡ true
one_item (process p) x y e f = ap (λ (z : ProcId). same_id z y) (sym (id_is p x e)) ∙ f
one_item (abort j) x y e f = wrong' e

pub sent_apart : (sent : List Item) (names : List Name) (x y : ProcId) (a b : Name) → AreDistinct names
    → name_sent sent names x ≡ Some a → name_sent sent names y ≡ Some b → same_id x y ≡ false → (a.number == 0) ≡ false
    → (b.number == 0) ≡ false → same_name a b ≡ false
sent_apart [] names x y a b h e f other i j = none_some a e
sent_apart (item ∷ sent) [] x y a b h e f other i j = none_some a e
sent_apart (item ∷ sent) (n ∷ names) x y a b h e f other i j = go (same_item item (process x))
    (same_item item (process y)) refl refl e f (λ z w. sent_apart sent names x y a b h.1 z w other i j)
  where
    go : (q r : Bool) → same_item item (process x) ≡ q → same_item item (process y) ≡ r
        → (if q then Some n else name_sent sent names x) ≡ Some a
        → (if r then Some n else name_sent sent names y) ≡ Some b
        → (name_sent sent names x ≡ Some a → name_sent sent names y ≡ Some b → same_name a b ≡ false)
        → same_name a b ≡ false
    go true true u v z w rest = wrong (sym (one_item item x y u v) ∙ other)
    go true false u v z w rest =
        let is = same_Some n a z in
        ap (λ (m : Name). same_name m b) (sym is)
        ∙ on_sent (λ m. AreOther n m) sent names y b h.0 w (ap (λ (m : Name). m.number == 0) is ∙ i) j
    go false true u v z w rest =
        let is = same_Some n b w in
        name_turned a b ∙ ap (λ (m : Name). same_name m a) (sym is)
        ∙ on_sent (λ m. AreOther n m) sent names x a h.0 z (ap (λ (m : Name). m.number == 0) is ∙ j) i
    go false false u v z w rest = rest z w
