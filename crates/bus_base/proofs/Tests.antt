-- Small lemmas on tests, numbers and lists, for the proofs of all crates.
use Rattle.std.proofs.Common.{ℕ, suc, ◌≡◌, ◌+◌, Bool, true, false, not, ◌&&◌, ◌||◌, ◌∙◌, List, [], ◌∷◌, ◌++◌, Option}
use Rattle.std.proofs.Common.{Some, None, refl, sym, ap, arith, ◌<◌, length, get_or, set, ◌≢◌, ◌-◌, rules, add-one}
use Rattle.std.proofs.Common.{drop-cons, drop, ◌*◌, reverse, subst}
use Rattle.std.proofs.lemmas.Bool.{eqb-true, eqb-false, or_left, or_right}
use Rattle.std.proofs.lemmas.Bool.Decides.{nat_tests}
use Rattle.std.proofs.lemmas.List.{get_or-set_same, get_or-set_other, length-append, reverse-append}
use Rattle.std.specs.List.{AllByRecursion}
use Rattle.std.specs.Prelude.{if◌then◌else◌, ◌==◌, is_none, nat_lt, nat_le, ◌||◌}

pub wrong : {A : Type 0} → true ≡ false → A
wrong e = absurd cc

pub wrong' : {A : Type 0} → false ≡ true → A
wrong' e = absurd cc

pub and_first : (p q : Bool) → (p && q) ≡ true → p ≡ true
and_first true q h = refl
and_first false q h = cc

pub and_second : (p q : Bool) → (p && q) ≡ true → q ≡ true
and_second true q h = h
and_second false q h = cc

pub or_true : (a : Bool) → (a || true) ≡ true
or_true true = refl
or_true false = refl

pub and_false : (s : Bool) → (s && false) ≡ false
and_false true = refl
and_false false = refl

pub or_false : (x : Bool) → (x || false) ≡ x
or_false true = refl
or_false false = refl

pub and_true : (q : Bool) → (q && true) ≡ q
and_true true = refl
and_true false = refl

pub eq_self : (n : ℕ) → (n == n) ≡ true
eq_self n = grind arith

pub eq_turned : (a b : ℕ) → (a == b) ≡ (b == a)
eq_turned a b = grind (arith, nat_tests)

pub or_second : (x y : Bool) → (x || y) ≡ true → x ≡ false → y ≡ true
or_second true y e f = cc
or_second false y e f = e

pub implied : (x y : Bool) → (not x || y) ≡ true → x ≡ true → y ≡ true
implied true y e f = e
implied false y e f = cc

pub implication : (a b : Bool) → (a ≡ true → b ≡ true) → (not a || b) ≡ true
implication true b f = f refl
implication false b f = refl

pub unless : (a b : Bool) → (a ≡ false → b ≡ true) → (a || b) ≡ true
unless true b f = refl
unless false b f = f refl

pub none_number : (y : ℕ) → (let o : Option ℕ = None in o) ≡ Some y → ⊥
none_number y e = cc

pub all_append : {A : Type 0} (P : A → Type 0) (xs ys : List A) → AllByRecursion P xs → AllByRecursion P ys
    → AllByRecursion P (xs ++ ys)
all_append P [] ys a b = b
all_append P (x ∷ xs) ys a b = (a.0, all_append P xs ys a.1 b)

pub all_reverse : {A : Type 0} (P : A → Type 0) (xs : List A) → AllByRecursion P xs → AllByRecursion P (reverse xs)
all_reverse P [] h = tt
all_reverse P (x ∷ xs) h = subst (AllByRecursion P) (sym (reverse-append (x ∷ []) xs))
    (all_append P (reverse xs) (x ∷ []) (all_reverse P xs h.1) (h.0, tt))

pub all_with : {A : Type 0} (P : A → Type 0) (xs : List A) (x : A) → AllByRecursion P xs → P x
    → AllByRecursion P (xs ++ x ∷ [])
all_with P xs x h k = all_append P xs (x ∷ []) h (k, tt)

pub nil_of : (xs : List ℕ) → length xs ≡ 0 → xs ≡ []
nil_of [] e = refl
nil_of (x ∷ xs) e = absurd omega (arith, e)

pub length_more : (bytes : List ℕ) (byte : ℕ) → length (bytes ++ byte ∷ []) ≡ length bytes + 1
length_more bytes byte = length-append bytes (byte ∷ [])

pub is_nothing : {A : Type 0} (x : Option A) → is_none x ≡ true → x ≡ None
is_nothing None e = refl
is_nothing (Some y) e = cc

pub plus_none : (n : ℕ) → n + 0 ≡ n
plus_none n = omega arith

pub all_three : (a b c : Bool) → a ≡ true → b ≡ true → c ≡ true → (a && b && c) ≡ true
all_three a b c e f g = λ i. e i && f i && g i

pub or_or : (a b x y : Bool) → ((a || b) || (x || y)) ≡ ((a || x) || (b || y))
or_or true b x y = refl
or_or false true true y = refl
or_or false true false y = refl
or_or false false true y = refl
or_or false false false y = refl

pub if_less : (q : Bool) (x y end : ℕ) → x < end → y < end → (if q then x else y) < end
if_less true x y end l m = l
if_less false x y end l m = m

pub nothing_below : (n : ℕ) → nat_lt n 0 ≡ false
nothing_below n = grind (arith, nat_tests)

pub zero_of : (n : ℕ) → (n == 0) ≡ true → n ≡ 0
zero_of n e = grind (arith, nat_tests)

pub next_some : (n : ℕ) → (n + 1 == 0) ≡ false
next_some n = search rules

pub suc_some : (n : ℕ) → (suc n == 0) ≡ false
suc_some n = grind (arith, nat_tests)

pub dropped : {A : Type 0} (i : ℕ) (xs : List A) (d : A) → i < length xs → drop i xs ≡ get_or xs i d ∷ drop (i + 1) xs
dropped i xs d below = rw (add-one, drop-cons xs i d) refl

pub item_next : {A : Type 0} (i : ℕ) (xs : List A) (x : A) → i < length xs → x ≡ get_or xs i x
    → drop i xs ≡ x ∷ drop (i + 1) xs
item_next i xs x below is = dropped i xs x below ∙ ap (λ y. y ∷ drop (i + 1) xs) (sym is)

pub put_at : (had : List Bool) (k t : ℕ) (x : Bool) → t < length had
    → get_or (set had k x) t false ≡ (if k == t then x else get_or had t false)
put_at had k t x l = go (k == t) refl
  where
    go : (y : Bool) → (k == t) ≡ y → get_or (set had k x) t false ≡ (if y then x else get_or had t false)
    go true e =
        let same : k ≡ t = eqb-true k t e in
        let within : k < length had = (let s = same in omega arith) in
        (λ i. get_or (set had k x) (sym same i) false) ∙ get_or-set_same had k x false within
    go false e = let other : t ≢ k = (λ z. eqb-false k t e (sym z)) in get_or-set_other had k t x false other

pub or_swapped : (a b c : Bool) → (a || (b || c)) ≡ (b || (a || c))
or_swapped true true c = refl
or_swapped true false c = refl
or_swapped false true c = refl
or_swapped false false c = refl

pub or_other : (x y : Bool) → x ≡ false → (x || y) ≡ true → y ≡ true
or_other true y e h = cc
or_other false y e h = h

pub implication_parts : (a b : Bool) → (not a || b) ≡ false → (a ≡ true) × (b ≡ false)
implication_parts true b e = (refl, e)
implication_parts false b e = absurd cc

pub times_none : (n : ℕ) → 0 ≡ n * 0
times_none n = omega arith

pub rises_none : (io q : Bool) (x y : ℕ) (z : Option ℕ) → io ≡ true
    → (if io then (if q then Some x else None) else z) ≡ None → q ≡ false
rises_none io true x y z e f = absurd (some_none x (sym (ap (λ (r : Bool). if r then Some x else z) e) ∙ f))
  where
    some_none : (x : ℕ) → Some x ≡ (let a : Option ℕ = None in a) → ⊥
    some_none x e = cc
rises_none io false x y z e f = refl

pub rises_some : (io q : Bool) (x dev : ℕ) (z : Option ℕ) → io ≡ true
    → (if io then (if q then Some x else None) else z) ≡ Some dev → q ≡ true
rises_some io true x dev z e f = refl
rises_some io false x dev z e f = absurd (nothing dev (sym (ap (λ (r : Bool). if r then None else z) e) ∙ f))
  where
    nothing : (x : ℕ) → (let a : Option ℕ = None in a) ≡ Some x → ⊥
    nothing x e = cc

pub or_middle : (a b c : Bool) → b ≡ true → (a || b || c) ≡ true
or_middle true b c e = refl
or_middle false b c e = λ i. e i || c

pub and_more : (x y : Bool) → (x && y) ≡ true → (x && y && true) ≡ true
and_more true true q = refl
and_more true false q = q
and_more false y q = q

pub or_later : (a b c : Bool) → (a || (b || c)) ≡ ((a || b) || c)
or_later true b c = refl
or_later false b c = refl

pub either_stays : (a b c d : Bool) → (a ≡ true → c ≡ true) → (b ≡ true → d ≡ true) → (a || b) ≡ true → (c || d) ≡ true
either_stays true b c d f g e = or_left c d (f refl)
either_stays false b c d f g e = or_right c d (g e)

pub none_between : (a b : Bool) → (a && false && b) ≡ false
none_between true b = refl
none_between false b = refl

pub true_by_test : (r t : Bool) → t ≡ true → (if r then true else t) ≡ true
true_by_test true t e = refl
true_by_test false t e = e

pub not_later : (time : ℕ) → nat_le time time ≡ true
not_later time = grind (arith, nat_tests)

pub middle : (a b c : Bool) → (a && b && c) ≡ true → b ≡ true
middle true true true h = refl
middle true true false h = cc
middle true false c h = cc
middle false b c h = cc

pub second_false : (a x y b : Bool) → x ≡ false → (a && x && y && b) ≡ false
second_false true true y b e = wrong e
second_false true false y b e = refl
second_false false x y b e = refl

pub not_first : (a b : Bool) → (not a && b) ≡ true → a ≡ false
not_first true b e = wrong' e
not_first false b e = refl

pub or_none_first : (x y : Bool) → (x || y) ≡ false → x ≡ false
or_none_first true y h = h
or_none_first false y h = refl

pub or_none_second : (x y : Bool) → (x || y) ≡ false → y ≡ false
or_none_second true y h = cc
or_none_second false y h = h
