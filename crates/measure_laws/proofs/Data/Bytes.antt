-- A run of data has at most the bytes that are left before it and not after it.
use Rattle.measure_laws.proofs
use proofs.Names.{ℕ, zero, suc, ◌≡◌, ◌≤◌, ◌<◌, Bool, true, false, ◌&&◌, Option, Some, None, refl, arith, ltb-true, ◌+◌}
use proofs.Names.{◌-◌, ◌*◌, ◌==◌, if◌then◌else◌, min, nat_lt, nat_le, and_second, Policy, runs_by, DataRun, run_by}
use proofs.Names.{run_in, runs_in, bytes_over, cut_bytes}

abbrev pub length_of : DataRun → ℕ
length_of r = r.end - r.start

first_only : (made need moved : ℕ) → made < 1 → moved ≤ need
    → moved - 0 + (if made + 1 == 0 then need else 0) ≤ (if made == 0 then need else 0)
first_only zero need moved lt h = omega arith
first_only (suc n) need moved lt h = absurd (omega arith)

least_of : (a b : ℕ) → (min a b ≤ a) × (min a b ≤ b)
least_of a b = (omega arith, omega arith)

burst_bytes : (step need moved made : ℕ) → moved ≤ need
    → min (made * step + step) moved - made * step + (need - (made + 1) * step) ≤ need - made * step
burst_bytes step need moved made h =
    let w = least_of (made * step + step) moved in
    let e : (made + 1) * step ≡ made * step + step = arith_step made step in
    by (made * step) ((made + 1) * step) (min (made * step + step) moved) e w.0 w.1
  where
    arith_step : (m x : ℕ) → (m + 1) * x ≡ m * x + x
    arith_step m x = omega arith

    by : (a b r : ℕ) → b ≡ a + step → r ≤ a + step → r ≤ moved → r - a + (need - b) ≤ need - a
    by a b r e f g = omega arith

part_end : (q : Bool) (step need moved : ℕ) → (q ≡ true → step < moved) → moved ≤ need
    → (if q then step else moved) ≤ need
part_end true step need moved f h = let w = f refl in omega arith
part_end false step need moved f h = h

two_goes : (made need run : ℕ) → made < 2 → run ≤ need
    → run - 0 + (if made + 1 == 0 then 2 * need else if made + 1 == 1 then need else 0)
    ≤ (if made == 0 then 2 * need else if made == 1 then need else 0)
two_goes zero need run lt h = omega arith
two_goes (suc zero) need run lt h = omega arith
two_goes (suc (suc n)) need run lt h = absurd (omega arith)

few_goes : (q : Bool) (made : ℕ) → made < (if q then 1 else 2) → made < 2
few_goes true made h = omega arith
few_goes false made h = h

cut_run : (policy : Policy) (blocks size need moved made : ℕ) → moved ≤ need → made < runs_by policy blocks
    → length_of (run_by policy size moved made) + cut_bytes policy size need (made + 1)
    ≤ cut_bytes policy size need made
cut_run Policy.Never blocks size need moved made h lt = first_only made need moved lt h
cut_run Policy.Command blocks size need moved made h lt = first_only made need moved lt h
cut_run (Policy.Burst most) blocks size need moved made h lt = burst_bytes (most * size) need moved made h
cut_run (Policy.NoSave most) blocks size need moved made h lt = two_goes made need
    (if made == 0 && nat_lt (most * size) moved then most * size else moved) (few_goes (nat_le blocks most) made lt)
    (part_end (made == 0 && nat_lt (most * size) moved) (most * size) need moved
    (λ e. ltb-true (most * size) moved (and_second (made == 0) (nat_lt (most * size) moved) e)) h)

abbrev pub blocks_of : Option (ℕ × ℕ) → Option ℕ
blocks_of None = None
blocks_of (Some range) = Some range.1

pub run_bytes : (policy : Policy) (range : Option (ℕ × ℕ)) (size need moved made : ℕ)
    → moved ≤ need → made < runs_in policy (blocks_of range)
    → length_of (run_in policy (blocks_of range) size moved made) + bytes_over policy range size need (made + 1)
    ≤ bytes_over policy range size need made
run_bytes policy None size need moved made h lt = first_only made need moved lt h
run_bytes policy (Some range) size need moved made h lt = cut_run policy range.1 size need moved made h lt
