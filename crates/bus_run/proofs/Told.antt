-- Devices are told of a row one by one.
use Rattle.std.proofs.Common.{inl, inr, ℕ, ◌≡◌, ◌≢◌, ◌<◌, ◌≤◌, ◌+◌, ◌∙◌, Bool, true, false, List, ◌∷◌, Option, Some}
use Rattle.std.proofs.Common.{None, refl, sym, ap, subst, arith}
use Rattle.std.specs.Prelude.{slice_index_or, nat_lt, ◌==◌, ◌||◌, if◌then◌else◌}
use Rattle.std.proofs.lemmas.Bool.{cases_eq, lt-ltb}
use Rattle.std.proofs.lemmas.Bool.Decides.{nat_tests}
use Rattle.bus_laws.specs.scsi_device.proofs.Finds.{some_is}
use Rattle.bus_trace.specs.declared.Row.{Row}
use Rattle.bus_trace.specs.declared.connection.Connection.{Connection}
use Rattle.scenario.specs.Value.{ScenarioValue}
use Rattle.bus_run.specs.Places.{IsIn, AreIn, rows_told, AreKnownBut}
use Rattle.bus_base.proofs.Tests.{or_true, eq_self, nothing_below}
use Rattle.due_model.specs.bus_rules.specs.Order.{is_of_device}

below_more : (d dev : ℕ) → d ≢ dev → nat_lt d (dev + 1) ≡ nat_lt d dev
below_more d dev ne = grind (arith, nat_tests)

below_self : (d : ℕ) → nat_lt d d ≡ false
below_self d = grind (arith, nat_tests)

below_next : (d : ℕ) → nat_lt d (d + 1) ≡ true
below_next d = grind (arith, nat_tests)

other_one : (d one : ℕ) → d ≢ one → (one == d) ≡ false
other_one d one ne = grind (arith, nat_tests)

told_next : (rows : List Row) (row : Row) (dev : ℕ) (one : Option ℕ) (d : ℕ) → d ≢ dev
    → rows_told rows row (dev + 1) one d ≡ rows_told rows row dev one d
told_next rows row dev one d ne =
    ap (λ (q : Bool). if q || is_of_device one d then row ∷ rows else rows) (below_more d dev ne)

told_one : (rows : List Row) (row : Row) (k : ℕ) (one : Option ℕ) (d : ℕ) → is_of_device one d ≡ true
    → rows_told rows row k one d ≡ row ∷ rows
told_one rows row k one d e = ap (λ (q : Bool). if nat_lt d k || q then row ∷ rows else rows) e
    ∙ ap (λ (q : Bool). if q then row ∷ rows else rows) (or_true (nat_lt d k))

told_below : (rows : List Row) (row : Row) (k : ℕ) (one : Option ℕ) (d : ℕ) → nat_lt d k ≡ true
    → rows_told rows row k one d ≡ row ∷ rows
told_below rows row k one d e = ap (λ (q : Bool). if q || is_of_device one d then row ∷ rows else rows) e

told_not : (rows : List Row) (row : Row) (k : ℕ) (one : Option ℕ) (d : ℕ) → nat_lt d k ≡ false
    → is_of_device one d ≡ false → rows_told rows row k one d ≡ rows
told_not rows row k one d e f = λ i. if e i || f i then row ∷ rows else rows

-- The one was told of it before.
pub skipped : {D : Type 0} → (IsOf : ScenarioValue → List Row → ℕ → D → Type 0) (s : ScenarioValue)
    (rows : List Row) (row : Row) (dev : ℕ) (one : Option ℕ) (xs : List (Option D))
    → is_of_device one dev ≡ true → AreKnownBut IsOf s rows row dev one xs
    → AreKnownBut IsOf s rows row (dev + 1) one xs
skipped {D} IsOf s rows row dev one xs e h d lt =
    elim (cases_eq d dev) [
      | inl same ↦ subst (λ (r : List Row). IsIn IsOf s r d (slice_index_or xs d None))
          (told_one rows row dev one d (is same) ∙ sym (told_one rows row (dev + 1) one d (is same))) (h d lt)
      | inr ne ↦ subst (λ (r : List Row). IsIn IsOf s r d (slice_index_or xs d None))
          (sym (told_next rows row dev one d ne)) (h d lt)
    ]
  where
    is : d ≡ dev → is_of_device one d ≡ true
    is same = ap (λ (k : ℕ). is_of_device one k) same ∙ e

-- One more is told.
pub told : {D : Type 0} → (IsOf : ScenarioValue → List Row → ℕ → D → Type 0) (s : ScenarioValue) (rows : List Row)
    (row : Row) (dev : ℕ) (one : Option ℕ) (xs ys : List (Option D)) → dev < 8 → is_of_device one dev ≡ false
    → (IsIn IsOf s rows dev (slice_index_or xs dev None) → IsIn IsOf s (row ∷ rows) dev (slice_index_or ys dev None))
    → ((d : ℕ) → d ≢ dev → slice_index_or ys d None ≡ slice_index_or xs d None) → AreKnownBut IsOf s rows row dev one xs
    → AreKnownBut IsOf s rows row (dev + 1) one ys
told {D} IsOf s rows row dev one xs ys lt apart seen others h d b =
    elim (cases_eq d dev) [
      | inl same ↦ subst (λ (k : ℕ). IsIn IsOf s (rows_told rows row (dev + 1) one k) k (slice_index_or ys k None))
          (sym same) here
      | inr ne ↦ subst (λ (y : Option D). IsIn IsOf s (rows_told rows row (dev + 1) one d) d y) (sym (others d ne))
          (subst (λ (r : List Row). IsIn IsOf s r d (slice_index_or xs d None)) (sym (told_next rows row dev one d ne))
          (h d b))
    ]
  where
    before : IsIn IsOf s rows dev (slice_index_or xs dev None)
    before = subst (λ (r : List Row). IsIn IsOf s r dev (slice_index_or xs dev None))
        (told_not rows row dev one dev (below_self dev) apart) (h dev lt)

    here : IsIn IsOf s (rows_told rows row (dev + 1) one dev) dev (slice_index_or ys dev None)
    here = subst (λ (r : List Row). IsIn IsOf s r dev (slice_index_or ys dev None))
        (sym (told_below rows row (dev + 1) one dev (below_next dev))) (seen before)

-- All are told.
pub all_told : {D : Type 0} → (IsOf : ScenarioValue → List Row → ℕ → D → Type 0) (s : ScenarioValue)
    (rows : List Row) (row : Row) (k : ℕ) (one : Option ℕ) (xs : List (Option D))
    → 8 ≤ k → AreKnownBut IsOf s rows row k one xs → AreIn IsOf s (row ∷ rows) xs
all_told {D} IsOf s rows row k one xs le h d lt =
    let under : d < k = omega arith in
    subst (λ (r : List Row). IsIn IsOf s r d (slice_index_or xs d None))
    (told_below rows row k one d (lt-ltb d k under)) (h d lt)

-- None is told, and there is none that is told first.
pub none_told : {D : Type 0} → (IsOf : ScenarioValue → List Row → ℕ → D → Type 0)
    (s : ScenarioValue) (rows : List Row) (row : Row) (xs : List (Option D))
    → AreIn IsOf s rows xs → AreKnownBut IsOf s rows row 0 None xs
none_told {D} IsOf s rows row xs h d lt = subst (λ (r : List Row). IsIn IsOf s r d (slice_index_or xs d None))
    (sym (told_not rows row 0 None d (nothing_below d) refl)) (h d lt)

-- One is told first.
pub one_told : {D : Type 0} → (IsOf : ScenarioValue → List Row → ℕ → D → Type 0)
    (s : ScenarioValue) (rows : List Row) (row : Row) (one : ℕ) (xs ys : List (Option D)) → one < 8
    → (IsIn IsOf s rows one (slice_index_or xs one None) → IsIn IsOf s (row ∷ rows) one (slice_index_or ys one None))
    → ((d : ℕ) → d ≢ one → slice_index_or ys d None ≡ slice_index_or xs d None) → AreIn IsOf s rows xs
    → AreKnownBut IsOf s rows row 0 (Some one) ys
one_told {D} IsOf s rows row one xs ys lt seen others h d b =
    elim (cases_eq d one) [
      | inl same ↦ subst (λ (k : ℕ). IsIn IsOf s (rows_told rows row 0 (Some one) k) k (slice_index_or ys k None))
          (sym same) here
      | inr ne ↦ subst (λ (y : Option D). IsIn IsOf s (rows_told rows row 0 (Some one) d) d y)
          (sym (others d ne)) (subst (λ (r : List Row). IsIn IsOf s r d (slice_index_or xs d None))
          (sym (told_not rows row 0 (Some one) d (nothing_below d) (other_one d one ne))) (h d b))
    ]
  where
    here : IsIn IsOf s (rows_told rows row 0 (Some one) one) one (slice_index_or ys one None)
    here = subst (λ (r : List Row). IsIn IsOf s r one (slice_index_or ys one None))
        (sym (told_one rows row 0 (Some one) one (eq_self one))) (seen (h one lt))

pub initiator_is : (o : Option Connection) (n m : Connection) (one : ℕ) → o ≡ Some n → o ≡ Some m → one ≡ n.initiator
    → m.initiator ≡ one
initiator_is o n m one e f first = ap (λ (k : Connection). k.initiator) (some_is m n (sym f ∙ e)) ∙ sym first

pub in_named : {D : Type 0} → (IsOf : ScenarioValue → List Row → ℕ → D → Type 0) (s : ScenarioValue)
    (rows : List Row) (xs : List (Option D)) (one : ℕ) (n : Connection) (x : Option D)
    → one ≡ n.initiator → x ≡ slice_index_or xs one None → IsIn IsOf s rows one (slice_index_or xs one None)
    → IsIn IsOf s rows n.initiator x
in_named {D} IsOf s rows xs one n x first e h =
    subst (λ (k : ℕ). IsIn IsOf s rows k x) first (subst (λ (y : Option D). IsIn IsOf s rows one y) (sym e) h)
