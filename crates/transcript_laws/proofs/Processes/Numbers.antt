-- Each connection more of an initiator has a name of its own.
use Rattle.transcript_laws.proofs
use proofs.Names.{ℕ, ◌≡◌, ◌∙◌, ◌+◌, ◌<◌, ◌≤◌, ◌==◌, Bool, true, false, not, ◌&&◌, List, [], ◌∷◌, ◌++◌, length, Option}
use proofs.Names.{Some, None, refl, sym, ap, arith, subst, eq-eqb, and_from, nat_tests, length-append, same_Some}
use proofs.Names.{if◌then◌else◌, wrong, and_false, number_same, none_some, by_bool, same_name, Key, next_number}
use proofs.Names.{with_last, same_nexus, process_after, Name, Process, OnNames, AreOther, AreDistinct, HasLast}
use proofs.{Names.{AreNumbered}, Processes.Last.{is_last, nexus_is, nexus_turned}}
use Rattle.bus_transcript.specs.Processes.{process_of}

-- ---- numbers

next_is : (m : ℕ) → m < 4294967295 → next_number m ≡ m + 1
next_is m less = omega (arith, less)

-- ---- lists of names

on_more : (q : Name → Type 0) (names : List Name) (name : Name) → OnNames q names → q name
    → OnNames q (names ++ name ∷ [])
on_more q [] name h x = (x, tt)
on_more q (y ∷ names) name h x = (h.0, on_more q names name h.1 x)

on_each : (q r : Name → Type 0) (names : List Name) → ((name : Name) → q name → r name) → OnNames q names
    → OnNames r names
on_each q r [] f h = tt
on_each q r (x ∷ names) f h = (f x h.0, on_each q r names f h.1)

pub distinct_more : (names : List Name) (name : Name) → AreDistinct names → OnNames (λ m. AreOther m name) names
    → AreDistinct (names ++ name ∷ [])
distinct_more [] name h x = (tt, tt)
distinct_more (y ∷ names) name h x = (on_more (λ m. AreOther y m) names name h.0 x.0, distinct_more names name h.1 x.1)

-- ---- one nexus

pub same_process : (last : List (Key × Process)) (a b : Name) → same_nexus a b ≡ true
    → process_of last a ≡ process_of last b
same_process last a b e = ap (λ (x : Key). process_of last
    (record { initiator = (x.0).0; target = (x.0).1; unit = (x.1).0; tag = (x.1).1; number = 0 })) (nexus_is a b e)

pub nexus_self : (x : Name) → same_nexus x x ≡ true
nexus_self x = and_from _ _ (and_from _ _ (eq-eqb x.initiator x.initiator refl) (eq-eqb x.target x.target refl))
    (and_from _ _ (number_same x.unit) (number_same x.tag))

-- The process of another name of the nexus.
pub process_at : (last : List (Key × Process)) (a b m : Name) → same_nexus a b ≡ true → same_nexus a m ≡ true
    → process_of last m ≡ process_of last b
process_at last a b m e f = sym (same_process last a m f) ∙ same_process last a b e

-- ---- the name of a connection more

record IsNext (last : List (Key × Process)) (count : ℕ) (name next : Name) : Type 0 where
  nexus : same_nexus next name ≡ true
  small : next.number ≤ count + 1
  above : (c : Process) → process_of last name ≡ Some c → c.name.number < next.number

new_next : (last : List (Key × Process)) (names : List Name) (name : Name)
    → length names < 4294967290 → AreNumbered last names
    → IsNext last (length names + 1) name (process_after false false (process_of last name) name).name
new_next last names name less h = go (process_of last name) refl
  where
    go : (o : Option Process) → process_of last name ≡ o
        → IsNext last (length names + 1) name (process_after false false o name).name
    go None e = record {
      nexus = nexus_self name;
      small = omega (arith, next_is 0 (omega arith));
      above = λ p f. none_some p (sym e ∙ f);
    }
    go (Some q) e =
        let counted = h.counted name q e in
        let n = next_is q.name.number (omega (arith, less, counted)) in
        record {
          nexus = nexus_self name;
          small = omega (arith, n, counted);
          above = λ p f.
              let same : q.name.number ≡ p.name.number = ap
              (λ (x : Process). x.name.number) (same_Some q p (sym e ∙ f)) in
              omega (arith, n, same);
        }

-- ---- after one more

put_keyed : (last : List (Key × Process)) (c : Process)
    → ((name : Name) (q : Process) → process_of last name ≡ Some q → same_nexus q.name name ≡ true)
    → (name : Name) (q : Process) → process_of (with_last last c) name ≡ Some q → same_nexus q.name name ≡ true
put_keyed last c h name q e = go (same_nexus c.name name) refl (sym (is_last last c name) ∙ e)
  where
    go : (r : Bool) → same_nexus c.name name ≡ r → (if r then Some c else process_of last name) ≡ Some q
        → same_nexus q.name name ≡ true
    go true f z = ap (λ (x : Process). same_nexus x.name name) (sym (same_Some c q z)) ∙ f
    go false f z = h name q z

put_counted : (last : List (Key × Process)) (c : Process) (count : ℕ) → c.name.number ≤ count
    → ((name : Name) (q : Process) → process_of last name ≡ Some q → q.name.number ≤ count)
    → (name : Name) (q : Process) → process_of (with_last last c) name ≡ Some q → q.name.number ≤ count
put_counted last c count small h name q e = go (same_nexus c.name name) (sym (is_last last c name) ∙ e)
  where
    go : (r : Bool) → (if r then Some c else process_of last name) ≡ Some q → q.name.number ≤ count
    go true z =
        let same : c.name.number ≡ q.name.number = ap (λ (x : Process). x.name.number) (same_Some c q z) in
        omega (arith, small, same)
    go false z = h name q z

put_last : (last : List (Key × Process)) (c : Process) (m : Name)
    → (same_nexus c.name m ≡ true → m.number ≤ c.name.number) → HasLast last m → HasLast (with_last last c) m
put_last last c m above h = by_bool (same_nexus c.name m) (λ f. record {
  process = c;
  last_is = is_last last c m ∙ ap (λ (q : Bool). if q then Some c else process_of last m) f;
  number = above f;
}) (λ f. record {
  process = h.process;
  last_is = is_last last c m ∙ ap (λ (q : Bool). if q then Some c else process_of last m) f ∙ h.last_is;
  number = h.number;
})

other_number : (a b : Name) → a.number < b.number → same_name a b ≡ false
other_number a b less =
    ap (λ (q : Bool). same_nexus a b && q) (unlike a.number b.number less) ∙ and_false (same_nexus a b)
  where
    unlike : (m i : ℕ) → m < i → (m == i) ≡ false
    unlike m i l = grind (arith, nat_tests, l)

-- An initiator began it, for a process.
pub first_numbered : (last : List (Key × Process)) (names : List Name) (name : Name) (t : Process)
    → length names < 4294967290 → t.name ≡ (process_after false false (process_of last name) name).name
    → AreNumbered last names → AreNumbered (with_last last t) (names ++ t.name ∷ [])
first_numbered last names name t less is h =
    let g : IsNext last (length names + 1) name t.name = subst
    (λ (x : Name). IsNext last (length names + 1) name x) (sym is) (new_next last names name less h) in
    let count : length (names ++ t.name ∷ []) ≡ length names + 1 = length-append names (t.name ∷ []) in
    record {
      keyed = put_keyed last t h.keyed;
      counted = put_counted last t (length (names ++ t.name ∷ []) + 1) (omega (arith, g.small, count))
          (λ m q e. let c = h.counted m q e in omega (arith, c, count));
      has_last = on_more (λ m. (m.number == 0) ≡ false → HasLast (with_last last t) m) names t.name (on_each
          (λ m. (m.number == 0) ≡ false → HasLast last m) (λ m. (m.number == 0) ≡ false → HasLast (with_last last t) m)
          names (λ m x z. put_last last t m (λ f. below g m (x z) f) (x z)) h.has_last) (λ z. record {
            process = t;
            last_is = is_last last t t.name
                ∙ ap (λ (q : Bool). if q then Some t else process_of last t.name) (nexus_self t.name);
            number = omega arith;
          });
      distinct = distinct_more names t.name h.distinct (on_each (λ m. (m.number == 0) ≡ false → HasLast last m)
          (λ m. AreOther m t.name) names (λ m x z y. other g m (x z)) h.has_last);
    }
  where
    less_than : IsNext last (length names + 1) name t.name → (m : Name) → HasLast last m → same_nexus t.name m ≡ true
        → m.number < t.name.number
    less_than g m x f =
        let above = g.above x.process (sym (process_at last t.name name m g.nexus f) ∙ x.last_is) in
        let number = x.number in
        omega (arith, above, number)

    below : IsNext last (length names + 1) name t.name → (m : Name) → HasLast last m → same_nexus t.name m ≡ true
        → m.number ≤ t.name.number
    below g m x f = let l = less_than g m x f in omega (arith, l)

    other : IsNext last (length names + 1) name t.name → (m : Name) → HasLast last m → same_name m t.name ≡ false
    other g m x =
        by_bool (same_nexus m t.name)
        (λ f. other_number m t.name (less_than g m x (nexus_turned t.name m ∙ f)))
        (λ f. ap (λ (q : Bool). q && m.number == t.name.number) f)

-- A target began it: the last process of the nexus goes on, or one begins that no initiator has begun.
pub again_numbered : (last : List (Key × Process)) (names : List Name) (name : Name) (t : Process) (aborts : Bool)
    → t.name ≡ (process_after true aborts (process_of last name) name).name → AreNumbered last names
    → AreNumbered (with_last last t) names
again_numbered last names name t aborts is h = go (process_of last name) refl is
  where
    one : (q : Bool) → (if q && not true then 0 else next_number 0) ≡ 1
    one true = next_is 0 (omega arith)
    one false = next_is 0 (omega arith)

    go : (o : Option Process) → process_of last name ≡ o → t.name ≡ (process_after true aborts o name).name
        → AreNumbered (with_last last t) names
    go None e f = record {
      keyed = put_keyed last t h.keyed;
      counted = put_counted last t (length names + 1)
          (let g : t.name.number ≡ 1 = ap (λ (x : Name). x.number) f ∙ one aborts in omega (arith, g)) h.counted;
      has_last = on_each (λ m. (m.number == 0) ≡ false → HasLast last m) (λ m. (m.number == 0) ≡ false
          → HasLast (with_last last t) m) names (λ m x z. put_last last t m (λ s. none_some (x z).process
          (sym (process_at last t.name name m (ap (λ (y : Name). same_nexus y name) f ∙ nexus_self name) s ∙ e)
          ∙ (x z).last_is)) (x z)) h.has_last;
      distinct = h.distinct;
    }
    go (Some q) e f = record {
      keyed = put_keyed last t h.keyed;
      counted = put_counted last t (length names + 1) (let c = h.counted name q e in
          let g : t.name.number ≡ q.name.number = ap (λ (x : Name). x.number) f in omega (arith, c, g)) h.counted;
      has_last = on_each (λ m. (m.number == 0) ≡ false → HasLast last m)
          (λ m. (m.number == 0) ≡ false → HasLast (with_last last t) m) names
          (λ m x z. put_last last t m (λ s. let same : (x z).process.name.number ≡ q.name.number = ap
          (λ (y : Process). y.name.number) (same_Some (x z).process q (sym (x z).last_is
          ∙ process_at last t.name name m (ap (λ (y : Name). same_nexus y name) f ∙ h.keyed name q e) s ∙ e)) in
          let number = (x z).number in let g : t.name.number ≡ q.name.number = ap (λ (y : Name). y.number) f in
          omega (arith, same, number, g)) (x z)) h.has_last;
      distinct = h.distinct;
    }

-- An abort begins no process.
pub abort_numbered : (last : List (Key × Process)) (names : List Name) (name : Name) → name.number ≡ 0
    → AreNumbered last names → AreNumbered last (names ++ name ∷ [])
abort_numbered last names name zero_is h =
    let count : length (names ++ name ∷ []) ≡ length names + 1 = length-append names (name ∷ []) in
    let none : (name.number == 0) ≡ true = λ i. zero_is i == 0 in
    record {
      keyed = h.keyed;
      counted = λ m q e. let c = h.counted m q e in omega (arith, c, count);
      has_last =
          on_more (λ m. (m.number == 0) ≡ false → HasLast last m) names name h.has_last (λ z. wrong (sym none ∙ z));
      distinct = distinct_more names name h.distinct (on_each (λ m. (m.number == 0) ≡ false → HasLast last m)
          (λ m. AreOther m name) names (λ m x z y. wrong (sym none ∙ y)) h.has_last);
    }
