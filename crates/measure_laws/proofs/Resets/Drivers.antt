-- How many devices drive lines, and how many do not, after a row of one device.
use Rattle.measure_laws.proofs
use proofs.Names.{inl, inr, ℕ, zero, suc, ◌≡◌, ◌≢◌, ◌≤◌, ◌<◌, ◌∙◌, Bool, true, false, List, ◌∷◌, refl, sym, ap, arith}
use proofs.Names.{cases_eq, ◌+◌, if◌then◌else◌, LineSet, none, same_set, drives, Row, ScenarioValue, run_state_plain}
use proofs.Names.{AreOfDevices, IsPlain, RunState, drives_of, run_state, drives_own, drives_other, row_of_lines}
use proofs.Names.{drivers}

-- ---- sums over the devices

abbrev pub sum_to : ℕ → (ℕ → ℕ) → ℕ
sum_to zero f = 0
sum_to (suc m) f = sum_to m f + f m

pub sum_same : (m : ℕ) (f g : ℕ → ℕ) → ((e : ℕ) → e < m → g e ≡ f e) → sum_to m g ≡ sum_to m f
sum_same zero f g h = refl
sum_same (suc m) f g h =
    let rest = sum_same m f g (λ e lt. h e (omega (arith, lt))) in
    let last = h m (omega arith) in
    λ i. rest i + last i

swapped : (a b x y c : ℕ) → a + x ≡ b + y → (a + c) + x ≡ (b + c) + y
swapped a b x y c h = omega (arith, h)

swapped_last : (a b x y : ℕ) → a ≡ b → (a + y) + x ≡ (b + x) + y
swapped_last a b x y h = omega (arith, h)

-- Where all but that of one device stays.
pub sum_swap : (m d : ℕ) (f g : ℕ → ℕ) → ((e : ℕ) → e < m → e ≢ d → g e ≡ f e) → d < m
    → sum_to m g + f d ≡ sum_to m f + g d
sum_swap zero d f g h lt = absurd (omega (arith, lt))
sum_swap (suc m) d f g h lt =
    elim (cases_eq d m) [
      | inl same ↦
          let rest = sum_same m f g (λ e l. h e (omega (arith, l)) (λ z. absurd (omega (arith, l, z, same)))) in
          (λ i. sum_to m g + g (sym same i) + f d) ∙ swapped_last (sum_to m g) (sum_to m f) (f d) (g d) rest
          ∙ (λ i. sum_to m f + f (same i) + g d)
      | inr ne ↦
          let l : d < m = omega (arith, lt, ne) in
          let rest = sum_swap m d f g (λ e l ne. h e (omega (arith, l)) ne) l in
          let last : g m ≡ f m = h m (omega arith) (λ z. ne (sym z)) in
          (λ i. sum_to m g + last i + f d) ∙ swapped (sum_to m g) (sum_to m f) (f d) (g d) (f m) rest
    ]

pub sum_both : (m : ℕ) (f g : ℕ → ℕ) → ((e : ℕ) → f e + g e ≡ 1) → sum_to m f + sum_to m g ≡ m
sum_both zero f g h = refl
sum_both (suc m) f g h =
    let rest = sum_both m f g h in
    let last = h m in
    omega (arith, rest, last)

-- ---- the devices

abbrev pub busy_one : LineSet → ℕ
busy_one l = if same_set l none then 0 else 1

abbrev pub quiet_one : LineSet → ℕ
quiet_one l = if same_set l none then 1 else 0

abbrev all_of : (ℕ → ℕ) → ℕ
all_of f = f 0 + f 1 + f 2 + f 3 + f 4 + f 5 + f 6 + f 7

as_sum : (f : ℕ → ℕ) → sum_to 8 f ≡ all_of f
as_sum f = omega arith

abbrev pub busy : (ℕ → LineSet) → ℕ
busy f = busy_one (f 0) + busy_one (f 1) + busy_one (f 2) + busy_one (f 3) + busy_one (f 4) + busy_one (f 5)
    + busy_one (f 6) + busy_one (f 7)

abbrev pub quiet : (ℕ → LineSet) → ℕ
quiet f = quiet_one (f 0) + quiet_one (f 1) + quiet_one (f 2) + quiet_one (f 3) + quiet_one (f 4) + quiet_one (f 5)
    + quiet_one (f 6) + quiet_one (f 7)

one_or : (l : LineSet) → busy_one l + quiet_one l ≡ 1
one_or l =
    elim (same_set l none) as (λ q. (if q then 0 else 1) + (if q then 1 else 0) ≡ 1) [ true ↦ refl | false ↦ refl ]

pub all_devices : (f : ℕ → LineSet) → busy f + quiet f ≡ 8
all_devices f =
    (λ i. sym (as_sum (λ e. busy_one (f e))) i + sym (as_sum (λ e. quiet_one (f e))) i)
    ∙ sum_both 8 (λ e. busy_one (f e)) (λ e. quiet_one (f e)) (λ e. one_or (f e))

pub busy_same : (f g : ℕ → LineSet) → ((e : ℕ) → e < 8 → g e ≡ f e) → busy g ≡ busy f
busy_same f g h = sym (as_sum (λ e. busy_one (g e)))
    ∙ sum_same 8 (λ e. busy_one (f e)) (λ e. busy_one (g e)) (λ e l. ap busy_one (h e l)) ∙ as_sum (λ e. busy_one (f e))

pub quiet_same : (f g : ℕ → LineSet) → ((e : ℕ) → e < 8 → g e ≡ f e) → quiet g ≡ quiet f
quiet_same f g h = sym (as_sum (λ e. quiet_one (g e)))
    ∙ sum_same 8 (λ e. quiet_one (f e)) (λ e. quiet_one (g e)) (λ e l. ap quiet_one (h e l))
    ∙ as_sum (λ e. quiet_one (f e))

pub busy_swap : (f g : ℕ → LineSet) (d : ℕ) → ((e : ℕ) → e < 8 → e ≢ d → g e ≡ f e) → d < 8
    → busy g + busy_one (f d) ≡ busy f + busy_one (g d)
busy_swap f g d h lt =
    (λ i. sym (as_sum (λ e. busy_one (g e))) i + busy_one (f d))
    ∙ sum_swap 8 d (λ e. busy_one (f e)) (λ e. busy_one (g e)) (λ e l ne. ap busy_one (h e l ne)) lt
    ∙ (λ i. as_sum (λ e. busy_one (f e)) i + busy_one (g d))

-- ---- after some rows

pub few_drivers : (k : RunState) → drivers k ≤ 8
few_drivers k = least (busy (drives_of k)) (quiet (drives_of k)) (all_devices (drives_of k))
  where
    least : (a b : ℕ) → a + b ≡ 8 → a ≤ 8
    least a b e = omega (arith, e)

-- A device that drives something lets all its lines go.
pub lets_go : (s : ScenarioValue) (p : List Row) (t d : ℕ) → AreOfDevices p → d < 8 → same_set (drives p d) none ≡ false
    → suc (drivers (run_state s (row_of_lines t d none ∷ p))) ≡ drivers (run_state s p)
lets_go s p t d dv lt some = one_less (busy (drives_of j)) (busy (drives_of k))
    (busy_one (drives_of k d)) (busy_one (drives_of j d)) (busy_swap (drives_of k) (drives_of j) d
    (λ e le ne. pj.drives e le ∙ drives_other p t d none e ne ∙ sym (pk.drives e le)) lt)
    (ap busy_one (pk.drives d lt) ∙ ap (λ (q : Bool). if q then 0 else 1) some)
    (ap busy_one (pj.drives d lt ∙ drives_own p t d none))
  where
    j : RunState
    j = run_state s (row_of_lines t d none ∷ p)

    k : RunState
    k = run_state s p

    pj : IsPlain s (row_of_lines t d none ∷ p) j
    pj = run_state_plain s (row_of_lines t d none ∷ p) (lt, dv)

    pk : IsPlain s p k
    pk = run_state_plain s p dv

    one_less : (a b x y : ℕ) → a + x ≡ b + y → x ≡ 1 → y ≡ 0 → suc a ≡ b
    one_less a b x y h e f = omega (arith, h, e, f)
