-- RST: what is due round what is due without it, and the rows that raise and release it (6.2.2).
use Rattle.bus_laws.proofs
use proofs.Names.{◌⊎◌, inl, inr, ℕ, ◌≡◌, ◌≢◌, ◌<◌, ◌≤◌, ◌+◌, Bool, true, false, not, ◌&&◌, ◌∙◌, List, [], ◌∷◌, Option}
use proofs.Names.{Some, None, refl, sym, ap, arith, ltb-false, ne_eqb, cases_Bool, nat_tests, same_Some, none-some}
use proofs.Names.{nat_lt, if◌then◌else◌, min, ◌==◌, eq_self, none_number, change_of, rises, falls, LineSet, none, when}
use proofs.Names.{drives, Drives, Fault, Row, only_rst, ScenarioValue, ResetDef, latency_of, due_at, earlier_due}
use proofs.Names.{sooner_time, time_if, rst_assertion, rst_release, Due, some_eq, run_state_plain, self_of}
use proofs.Names.{is_reset_past, reset_from, calm_due, device_due, due_if, due, Own, own_at, own_of, own_after}
use proofs.Names.{own_next, AreOfDevices, run_state, unreset_due_if, unreset_due, reset_due_if, reset_due, row_of_lines}
use proofs.{Names.{HasDevice}, Stages.Dues.{is_at}}

-- ---- the first of two

pub one_of : (a b : Option Due) (z : Due) → earlier_due a b ≡ Some z → (a ≡ Some z) ⊎ (b ≡ Some z)
one_of None b z e = inr e
one_of (Some x) None z e = inl e
one_of (Some x) (Some y) z e =
    elim (cases_Bool (nat_lt y.time x.time)) [ inl f ↦ inr (rw f at e) | inr f ↦ inl (rw f at e) ]

pub record NoLater (o : Option Due) (time : ℕ) : Type 0 where
  pub x : Due
  pub is : o ≡ Some x
  pub le : x.time ≤ time

pub comes_by : (a b : Option Due) (y : Due) → b ≡ Some y → NoLater (earlier_due a b) y.time
comes_by None b y e = record { x = y; is = e; le = omega arith }
comes_by (Some x) None y e = absurd (none-some y e)
comes_by (Some x) (Some w) y e = go (nat_lt w.time x.time) refl
  where
    same : w.time ≡ y.time
    same = ap (λ (z : Due). z.time) (some_eq w y e)

    go : (q : Bool) → nat_lt w.time x.time ≡ q → NoLater (Some (if q then w else x)) y.time
    go true h = let s = same in record { x = w; is = refl; le = omega arith }
    go false h = let s = same in let l = ltb-false w.time x.time h in record { x = x; is = refl; le = omega arith }

pub comes_by_first : (a b : Option Due) (y : Due) → a ≡ Some y → NoLater (earlier_due a b) y.time
comes_by_first None b y e = absurd (none-some y e)
comes_by_first (Some x) None y e =
    let s = ap (λ (z : Due). z.time) (some_eq x y e) in
    record { x = x; is = refl; le = omega arith }
comes_by_first (Some x) (Some w) y e = go (nat_lt w.time x.time) refl
  where
    same : x.time ≡ y.time
    same = ap (λ (z : Due). z.time) (some_eq x y e)

    lt_le : (a b : ℕ) → nat_lt a b ≡ true → a ≤ b
    lt_le a b h = grind (arith, nat_tests)

    go : (q : Bool) → nat_lt w.time x.time ≡ q → NoLater (Some (if q then w else x)) y.time
    go true h = let s = same in let l = lt_le w.time x.time h in record { x = w; is = refl; le = omega arith }
    go false h = let s = same in record { x = x; is = refl; le = omega arith }

-- ---- what is due of a device that does not drive RST, and of one that does

own_is : (s : ScenarioValue) (p : List Row) (d lat : ℕ) → AreOfDevices p → d < 8
    → device_due s (run_state s p) (self_of (run_state s p) d lat) (own_at (run_state s p).owns d)
    ≡ device_due s (run_state s p) (self_of (run_state s p) d lat) (own_of p d)
own_is s p d lat h lt =
    ap (λ (o : Own). device_due s (run_state s p) (self_of (run_state s p) d lat) o) ((run_state_plain s p h).own d lt)

due_if_calm : (s : ScenarioValue) (p : List Row) (d : ℕ) (o : Option ℕ)
    → AreOfDevices p → d < 8 → (drives p d).rst ≡ false
    → due_if s (run_state s p) d o ≡ earlier_due (reset_due_if s p d o) (unreset_due_if s (run_state s p) d o)
due_if_calm s p d None h lt e = refl
due_if_calm s p d (Some lat) h lt e = own_is s p d lat h lt
    ∙ ap (λ (q : Bool). if q then rst_release (self_of (run_state s p) d lat) (own_of p d).rst
    else earlier_due (rst_assertion (reset_from d (own_of p d).released s.resets))
    (calm_due s (run_state s p) (self_of (run_state s p) d lat)))
    (ap (λ (x : LineSet). x.rst) ((run_state_plain s p h).drives d lt) ∙ e)

pub due_calm : (s : ScenarioValue) (p : List Row) (d : ℕ) → AreOfDevices p → d < 8 → (drives p d).rst ≡ false
    → due s p d ≡ earlier_due (reset_due s p d) (unreset_due s p d)
due_calm s p d h lt e = due_if_calm s p d (latency_of s d) h lt e

pub due_holding : (s : ScenarioValue) (p : List Row) (d lat : ℕ) → AreOfDevices p → d < 8 → latency_of s d ≡ Some lat
    → (drives p d).rst ≡ true → due s p d ≡ due_at ((own_of p d).rst + 25000 + lat) none
due_holding s p d lat h lt there e = ap (due_if s (run_state s p) d) there ∙ own_is s p d lat h lt
    ∙ ap (λ (q : Bool). if q then rst_release (self_of (run_state s p) d lat) (own_of p d).rst
    else earlier_due (rst_assertion (reset_from d (own_of p d).released s.resets))
    (calm_due s (run_state s p) (self_of (run_state s p) d lat)))
    (ap (λ (x : LineSet). x.rst) ((run_state_plain s p h).drives d lt) ∙ e)

-- A device of which something is due is there.
pub due_there : (s : ScenarioValue) (p : List Row) (d : ℕ) (x : Due) → due s p d ≡ Some x → HasDevice s d
due_there s p d x h = go (latency_of s d) refl
  where
    go : (o : Option ℕ) → latency_of s d ≡ o → HasDevice s d
    go None q = absurd (none-some x (sym (ap (due_if s (run_state s p) d) q) ∙ h))
    go (Some lat) q = record { latency = lat; latency_is = q }

-- ---- a reset of a device's own

pub record IsReset (x : Due) (time : Option ℕ) : Type 0 where
  pub time_is : time ≡ Some x.time
  pub kind_is : x.kind ≡ Drives only_rst

pub reset_is : (time : Option ℕ) (x : Due) → rst_assertion time ≡ Some x → IsReset x time
reset_is None x e = absurd (none-some x e)
reset_is (Some t) x e =
    let z = is_at t only_rst x e in
    record { time_is = ap (λ (y : ℕ). Some y) (sym z.time_is); kind_is = z.kind_is }

pub own_reset_is : (s : ScenarioValue) (p : List Row) (d : ℕ) (x : Due) → reset_due s p d ≡ Some x
    → IsReset x (reset_from d (own_of p d).released s.resets)
own_reset_is s p d x e = go (latency_of s d) e
  where
    go : (o : Option ℕ) → reset_due_if s p d o ≡ Some x → IsReset x (reset_from d (own_of p d).released s.resets)
    go None q = absurd (none-some x q)
    go (Some lat) q = reset_is (reset_from d (own_of p d).released s.resets) x q

sooner_after : (t : ℕ) (a b : Option ℕ) (x : ℕ)
    → ((y : ℕ) → a ≡ Some y → t < y) → ((y : ℕ) → b ≡ Some y → t < y) → sooner_time a b ≡ Some x → t < x
sooner_after t None b x f g e = g x e
sooner_after t (Some a) None x f g e = f x e
sooner_after t (Some a) (Some b) x f g e =
    let h = same_Some (min a b) x e in
    let u = f a refl in
    let v = g b refl in
    omega arith

time_after : (t : ℕ) (q : Bool) (at x : ℕ) → time_if (q && not (not (nat_lt t at))) at ≡ Some x → t < x
time_after t true at x e = go (nat_lt t at) refl e
  where
    lt_of : (a b : ℕ) → nat_lt a b ≡ true → a < b
    lt_of a b h = grind (arith, nat_tests)

    go : (r : Bool) → nat_lt t at ≡ r → time_if (not (not r)) at ≡ Some x → t < x
    go true h z = let u = same_Some at x z in let v = lt_of t at h in omega arith
    go false h z = absurd (none_number x z)
time_after t false at x e = absurd (none_number x e)

pub reset_after : (dev t : ℕ) (resets : List ResetDef) (x : ℕ) → reset_from dev (Some t) resets ≡ Some x → t < x
reset_after dev t [] x e = absurd (none_number x e)
reset_after dev t (r ∷ resets) x e = sooner_after t (time_if (r.dev == dev && not (is_reset_past (Some t) r.at)) r.at)
    (reset_from dev (Some t) resets) x (λ y z. time_after t (r.dev == dev) r.at y z)
    (λ y z. reset_after dev t resets y z) e

-- ---- what a row leaves of a device's resets

own_after_own : (p : List Row) (t d : ℕ) (l : LineSet)
    → own_of (row_of_lines t d l ∷ p) d ≡ own_after (own_of p d) (change_of p (row_of_lines t d l)) t
own_after_own p t d l =
    λ i. if eq_self d i then own_after (own_of p d) (change_of p (row_of_lines t d l)) t else own_of p d

pub own_other : (p : List Row) (row : Row) (e : ℕ) → e ≢ row.dev → own_of (row ∷ p) e ≡ own_of p e
own_other p row e ne =
    λ i. if ne_eqb row.dev e (λ x. ne (sym x)) i then own_next row.kind (own_of p e) (change_of p row) row.time
    else own_of p e

pub released_own : (p : List Row) (t d : ℕ) (l : LineSet)
    → (own_of (row_of_lines t d l ∷ p) d).released ≡ when (falls (drives p d).rst l.rst) t (own_of p d).released
released_own p t d l = ap (λ (o : Own). o.released) (own_after_own p t d l)

pub rst_own : (p : List Row) (t d : ℕ) (l : LineSet)
    → (own_of (row_of_lines t d l ∷ p) d).rst ≡ (if rises (drives p d).rst l.rst then t else (own_of p d).rst)
rst_own p t d l = ap (λ (o : Own). o.rst) (own_after_own p t d l)

pub own_fault : (p : List Row) (t d bit e : ℕ)
    → own_of (record { time = t; dev = d; kind = Fault bit } ∷ p) e ≡ own_of p e
own_fault p t d bit e = elim (cases_Bool (d == e)) [ inl f ↦ rw f | inr f ↦ rw f ]
