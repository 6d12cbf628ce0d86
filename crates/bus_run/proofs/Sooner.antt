-- The first row of several devices, in whatever order these are asked.
use Rattle.std.proofs.Common.{inl, inr, ℕ, zero, suc, ◌≡◌, ◌==◌, ◌<◌, ◌+◌, ◌∙◌, Bool, true, false, not, ◌&&◌, ◌||◌}
use Rattle.std.proofs.Common.{refl, sym, ap, arith, Option, Some, None}
use Rattle.std.specs.Prelude.{nat_lt, IfSome, if◌then◌else◌}
use Rattle.std.proofs.lemmas.Bool.{cases_eq, eqb-true, eq-eqb, ne_eqb}
use Rattle.std.proofs.lemmas.Bool.Decides.{nat_tests}
use Rattle.bus_trace.specs.declared.Row.{Row}
use Rattle.bus_trace.specs.declared.connection.Connection.{Connection}
use Rattle.reaction_model.specs.declared.due.Due.{Due}
use Rattle.due_model.specs.Next.{least, first_row, row_of}
use Rattle.due_model.proofs.Leasts.{least_some}
use Rattle.bus_run.specs.Away.{comes_first, sooner_row, due_besides}
use Rattle.bus_run.proofs.Firsts.{least_more}

-- ---- two rows

higher_first : (x r e d : ℕ) → e < d → (nat_lt x r || (x == r && nat_lt e d)) ≡ not (nat_lt r x)
higher_first x r e d lt = grind (arith, nat_tests)

lower_later : (x r e d : ℕ) → e < d → (nat_lt x r || (x == r && nat_lt d e)) ≡ nat_lt x r
lower_later x r e d lt = grind (arith, nat_tests)

-- x comes before z, where it comes before y, which comes before z.
through : (x y z e d : ℕ) → (nat_lt x y || (x == y && nat_lt e d)) ≡ true → nat_lt y z ≡ true → nat_lt x z ≡ true
through x y z e d a b = grind (arith, nat_tests)

not_through : (x y z e d : ℕ) → (nat_lt x y || (x == y && nat_lt e d)) ≡ false → nat_lt y z ≡ false → nat_lt x z ≡ false
not_through x y z e d a b = grind (arith, nat_tests)

-- ---- one device

-- It is the higher one.
first_is : (x : Option Due) (dev : ℕ) (r : Option Row) → IfSome r (λ row. row.dev < dev)
    → sooner_row x dev r ≡ first_row x dev r
first_is None dev r h = refl
first_is (Some x) dev None h = refl
first_is (Some x) dev (Some r) h =
    (λ i. if higher_first x.time r.time r.dev dev h i then Some (row_of dev x) else Some r)
    ∙ turned (nat_lt r.time x.time)
  where
    turned : (q : Bool) → (if not q then Some (row_of dev x) else Some r) ≡ (if q then Some r else Some (row_of dev x))
    turned true = refl
    turned false = refl

-- It is the lower one.
swapped : (a : Option Due) (d : ℕ) (b : Option Due) (k : ℕ) (w : Option Row) → d < k
    → first_row b k (sooner_row a d w) ≡ sooner_row a d (first_row b k w)
swapped None d b k w lt = refl
swapped (Some y) d None k w lt = refl
swapped (Some y) d (Some x) k None lt =
    λ i. if sym (lower_later y.time x.time d k lt) i then Some (row_of d y) else Some (row_of k x)
swapped (Some y) d (Some x) k (Some r) lt = go (comes_first (row_of d y) r) refl (nat_lt r.time x.time) refl
  where
    mine : Row
    mine = row_of d y

    other : Row
    other = row_of k x

    go : (p : Bool) → comes_first mine r ≡ p → (q : Bool) → nat_lt r.time x.time ≡ q
        → first_row (Some x) k (if p then Some mine else Some r)
        ≡ sooner_row (Some y) d (if q then Some r else Some other)
    go true e true f = (λ i. if through y.time r.time x.time r.dev d e f i then Some mine else Some other)
        ∙ (λ i. if sym e i then Some mine else Some r)
    go true e false f = λ i. if sym (lower_later y.time x.time d k lt) i then Some mine else Some other
    go false e true f = (λ i. if f i then Some r else Some other) ∙ (λ i. if sym e i then Some mine else Some r)
    go false e false f = (λ i. if f i then Some r else Some other)
        ∙ (λ i. if sym (lower_later y.time x.time d k lt ∙ not_through y.time r.time x.time r.dev d e f) i
        then Some mine else Some other)

again : (a : Option Due) (d : ℕ) (w : Option Row) → sooner_row a d (sooner_row a d w) ≡ sooner_row a d w
again None d w = refl
again (Some x) d None = either (comes_first (row_of d x) (row_of d x))
  where
    either : (q : Bool) → (if q then Some (row_of d x) else Some (row_of d x)) ≡ Some (row_of d x)
    either true = refl
    either false = refl
again (Some x) d (Some r) = go (comes_first (row_of d x) r) refl
  where
    either : (q : Bool) → (if q then Some (row_of d x) else Some (row_of d x)) ≡ Some (row_of d x)
    either true = refl
    either false = refl

    go : (q : Bool) → comes_first (row_of d x) r ≡ q
        → sooner_row (Some x) d (if q then Some (row_of d x) else Some r) ≡ (if q then Some (row_of d x) else Some r)
    go true e = either (comes_first (row_of d x) (row_of d x))
    go false e = λ i. if e i then Some (row_of d x) else Some r

-- ---- all devices

pub least_same : (f g : ℕ → Option Due) (k : ℕ) → ((dev : ℕ) → dev < k → f dev ≡ g dev) → least f k ≡ least g k
unfolding least
least_same f g zero h = refl
least_same f g (suc k) h = λ i. first_row (h k (omega arith) i) k (least_same f g k (λ dev lt. h dev (omega arith)) i)

least_below : (f : ℕ → Option Due) (k : ℕ) → IfSome (least f k) (λ row. row.dev < k)
least_below f k = go (least f k) refl
  where
    go : (r : Option Row) → least f k ≡ r → IfSome r (λ row. row.dev < k)
    go None e = tt
    go (Some row) e = (least_some f k row e).inside

-- One more is asked.
pub asked_more : (f : ℕ → Option Due) (k : ℕ) (first more : Option Row) → more ≡ sooner_row (f k) k first
    → first ≡ least f k → more ≡ least f (k + 1)
asked_more f k first more e h = e ∙ ap (λ (r : Option Row). sooner_row (f k) k r) h
    ∙ first_is (f k) k (least f k) (least_below f k) ∙ sym (least_more f k)

-- All but one of them.
abbrev without : ℕ → (ℕ → Option Due) → ℕ → Option Due
without d f dev = if d == dev then None else f dev

not_it : (f : ℕ → Option Due) (d dev : ℕ) → (d == dev) ≡ false → f dev ≡ without d f dev
not_it f d dev e = λ i. if sym e i then None else f dev

least_with : (f : ℕ → Option Due) (d k : ℕ) → d < k → least f k ≡ sooner_row (f d) d (least (without d f) k)
unfolding least
least_with f d zero lt = absurd (omega arith)
least_with f d (suc k) lt =
    elim (cases_eq d k) [
      | inl same ↦ sym (first_is (f k) k (least f k) (least_below f k))
          ∙ (λ i. sooner_row (f (sym same i)) (sym same i) (least_same f (without d f) k
          (λ dev below. not_it f d dev (ne_eqb d dev (λ e. omega (arith, same, e, below)))) i))
          ∙ (λ i. sooner_row (f d) d
          (first_row (if sym (eq-eqb d k same) i then None else f k) k (least (without d f) k)))
      | inr ne ↦ (λ i. first_row (f k) k (least_with f d k (omega (arith, ne)) i))
          ∙ swapped (f d) d (f k) k (least (without d f) k) (omega (arith, ne))
          ∙ (λ i. sooner_row (f d) d (first_row (not_it f d k (ne_eqb d k ne) i) k (least (without d f) k)))
    ]

-- Those that are no ends of a connection, and its ends.
pub ends_first : (f : ℕ → Option Due) (n : Connection) → n.initiator < 8 → n.target < 8
    → sooner_row (f n.target) n.target (sooner_row (f n.initiator) n.initiator (least (due_besides (Some n) f) 8))
    ≡ least f 8
ends_first f n initiator target =
    go (n.target == n.initiator) refl
    ∙ sym (ap (λ (r : Option Row). sooner_row (f n.target) n.target r) rest)
    ∙ sym (least_with f n.target 8 target)
  where
    others : Option Row
    others = least (due_besides (Some n) f) 8

    one_by_one : (p q : Bool) (x : Option Due)
        → (if p then None else if q then None else x) ≡ (if p || q then None else x)
    one_by_one true q x = refl
    one_by_one false q x = refl

    rest : least (without n.target f) 8
        ≡ sooner_row (if n.target == n.initiator then None else f n.initiator) n.initiator others
    rest = least_with (without n.target f) n.initiator 8 initiator
        ∙ ap (λ (r : Option Row). sooner_row (if n.target == n.initiator then None else f n.initiator) n.initiator r)
        (least_same (without n.initiator (without n.target f)) (due_besides (Some n) f) 8
        (λ dev lt. one_by_one (n.initiator == dev) (n.target == dev) (f dev)))

    go : (q : Bool) → (n.target == n.initiator) ≡ q
        → sooner_row (f n.target) n.target (sooner_row (f n.initiator) n.initiator others)
        ≡ sooner_row (f n.target) n.target (sooner_row (if q then None else f n.initiator) n.initiator others)
    go false e = refl
    go true e =
        let same : n.target ≡ n.initiator = eqb-true n.target n.initiator e in
        (λ i. sooner_row (f n.target) n.target (sooner_row (f (sym same i)) (sym same i) others))
        ∙ again (f n.target) n.target others
