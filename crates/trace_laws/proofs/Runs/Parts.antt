-- The data runs of a process: each has a byte at least, lies in what is moved, and begins where that before it ends, or
-- with the first byte (6.6.6, 6.6.20).
use Rattle.trace_laws.proofs
use proofs.Names.{ℕ, zero, suc, ◌≡◌, ◌+◌, ◌*◌, ◌<◌, ◌≤◌, Bool, true, false, ◌∙◌, Option, Some, None, refl, sym, ap}
use proofs.Names.{subst, arith, ◌==◌, ◌&&◌, ◌/◌, div-mul-le_self, ltb-true, if◌then◌else◌, nat_lt, ◌-◌, min, ⊤}
use proofs.Names.{times_none, Policy, run_in, runs_in, runs_in_all, run_at, run_length, Task, some_count, mul_assoc}
use proofs.Names.{policy_by, step_in, MoreRuns, in_bursts, from_start}

-- Runs are of one block at least.
abbrev pub HasMost : Policy → Type 0
HasMost Policy.Never = ⊤
HasMost Policy.Command = ⊤
HasMost (Policy.Burst most) = 1 ≤ most
HasMost (Policy.NoSave most) = 1 ≤ most

-- Where it reads or writes blocks it moves all their bytes, or none.
pub record RunsFit (policy : Policy) (t : Task) : Type 0 where
  pub moved : (blocks : ℕ) → t.blocks ≡ Some blocks → (t.moved == 0) ≡ false → t.moved ≡ blocks * t.size
  pub most : HasMost policy

-- ---- numbers

not_below : (i m : ℕ) → m ≡ 0 → nat_lt i m ≡ true → ⊥
not_below i m z e = let l = ltb-true i m e in absurd omega (arith, l, z)

-- Fewer runs than all leave blocks.
blocks_left : (m blocks most : ℕ) → 1 ≤ most → m < (blocks + (most - 1)) / most → m * most < blocks
blocks_left m blocks most h l =
    let all : (blocks + (most - 1)) / most * most ≤ blocks + (most - 1) = div-mul-le_self (blocks + (most - 1)) most in
    let more : (m + 1) * most ≤ (blocks + (most - 1)) / most * most = times
    (m + 1) ((blocks + (most - 1)) / most) most (omega (arith, l)) in
    let split : (m + 1) * most ≡ m * most + most = next m most in
    omega (arith, all, more, split, h)
  where
    times : (a b c : ℕ) → a ≤ b → a * c ≤ b * c
    times a b c e = grind arith

    next : (a c : ℕ) → (a + 1) * c ≡ a * c + c
    next a c = omega arith

times_less : (a b c : ℕ) → a < b → 1 ≤ c → a * c < b * c
times_less a b c h e = grind arith

size_some : (blocks size moved : ℕ) → 1 ≤ moved → moved ≡ blocks * size → 1 ≤ size
size_some blocks size moved h e = go size refl
  where
    go : (z : ℕ) → size ≡ z → 1 ≤ size
    go zero f =
        let none : moved ≡ 0 = e ∙ ap (λ (x : ℕ). blocks * x) f ∙ sym (times_none blocks) in
        absurd omega (arith, none, h)
    go (suc z) f = omega (arith, f)

step_some : (a b : ℕ) → 1 ≤ a → 1 ≤ b → 1 ≤ a * b
step_some a b h e = grind arith

-- ---- where a run begins

pub start_is : (policy : Policy) (blocks : Option ℕ) (size moved m : ℕ)
    → (run_in policy blocks size moved m).start ≡ m * step_in policy blocks size
start_is policy None size moved m = times_none m
start_is (Policy.Burst most) (Some blocks) size moved m = refl
start_is _ (Some blocks) size moved m = times_none m

-- ---- a run has a byte, and lies in what is moved

part_end : (step moved m : ℕ) → 1 ≤ step → 1 ≤ moved → 1 ≤ (if m == 0 && nat_lt step moved then step else moved)
part_end step moved m h e =
    elim (m == 0 && nat_lt step moved) as (λ q. 1 ≤ (if q then step else moved)) [ true ↦ h | false ↦ e ]

part_within : (step moved m : ℕ) → (if m == 0 && nat_lt step moved then step else moved) ≤ moved
part_within step moved m = go (m == 0) (nat_lt step moved) refl
  where
    go : (r q : Bool) → nat_lt step moved ≡ q → (if r && q then step else moved) ≤ moved
    go true true e = let l = ltb-true step moved e in omega (arith, l)
    go true false e = omega arith
    go false q e = omega arith

min_less : (a b c : ℕ) → a < b → a < c → a < min b c
min_less a b c h e = grind arith

min_within : (b c : ℕ) → min b c ≤ c
min_within b c = grind arith

min_first : (b c : ℕ) → b ≤ c → min b c ≡ b
min_first b c h = grind arith

run_some : (policy : Policy) (blocks size moved i : ℕ) → HasMost policy
    → 1 ≤ moved → moved ≡ blocks * size → i < runs_in policy (Some blocks)
    → (run_in policy (Some blocks) size moved i).start < (run_in policy (Some blocks) size moved i).end
run_some Policy.Never blocks size moved i m h e l = h
run_some Policy.Command blocks size moved i m h e l = h
run_some (Policy.Burst most) blocks size moved i m h e l =
    let some = step_some most size m (size_some blocks size moved h e) in
    let left : i * most < blocks = blocks_left i blocks most m l in
    let less : i * most * size < blocks * size = times_less
    (i * most) blocks size left (size_some blocks size moved h e) in
    let start = mul_assoc i most size in
    min_less (i * (most * size)) (i * (most * size) + most * size) moved (omega (arith, some))
    (omega (arith, less, start, e))
run_some (Policy.NoSave most) blocks size moved i m h e l =
    part_end (most * size) moved i (step_some most size m (size_some blocks size moved h e)) h

run_within : (policy : Policy) (blocks : Option ℕ) (size moved m : ℕ) → (run_in policy blocks size moved m).end ≤ moved
run_within policy None size moved m = omega arith
run_within Policy.Never (Some blocks) size moved m = omega arith
run_within Policy.Command (Some blocks) size moved m = omega arith
run_within (Policy.Burst most) (Some blocks) size moved m = min_within (m * (most * size) + most * size) moved
run_within (Policy.NoSave most) (Some blocks) size moved m = part_within (most * size) moved m

-- ---- of a task

in_all : (policy : Policy) (t : Task) (m : ℕ) → nat_lt m (runs_in_all policy t) ≡ true
    → ((t.moved == 0) ≡ false) × (m < runs_in policy t.blocks)
in_all policy t m e = go (t.moved == 0) refl e
  where
    go : (q : Bool) → (t.moved == 0) ≡ q → nat_lt m (if q then 0 else runs_in policy t.blocks) ≡ true
        → ((t.moved == 0) ≡ false) × (m < runs_in policy t.blocks)
    go true f z = absurd (not_below m 0 refl z)
    go false f z = (f, ltb-true m (runs_in policy t.blocks) z)

pub has_byte : (policy : Policy) (t : Task) → RunsFit policy t → nat_lt t.runs (runs_in_all policy t) ≡ true
    → 1 ≤ run_length policy t
has_byte policy t f e =
    let a = in_all policy t t.runs e in
    less (run_at policy t t.runs).start (run_at policy t t.runs).end (go t.blocks refl a.0 a.1)
  where
    go : (o : Option ℕ) → t.blocks ≡ o → (t.moved == 0) ≡ false → t.runs < runs_in policy t.blocks
        → (run_in policy t.blocks t.size t.moved t.runs).start < (run_in policy t.blocks t.size t.moved t.runs).end
    go None z some l = subst (λ (b : Option ℕ). (run_in policy b t.size t.moved t.runs).start
        < (run_in policy b t.size t.moved t.runs).end) (sym z) (some_count t.moved some)
    go (Some blocks) z some l = subst (λ (b : Option ℕ). (run_in policy b t.size t.moved t.runs).start
        < (run_in policy b t.size t.moved t.runs).end) (sym z) (run_some policy blocks t.size t.moved t.runs f.most
        (some_count t.moved some) (f.moved blocks z some) (subst (λ (b : Option ℕ). t.runs < runs_in policy b) z l))

    less : (a b : ℕ) → a < b → 1 ≤ b - a
    less a b h = omega (arith, h)

-- A byte of the run is a byte of what is moved.
pub byte_within : (policy : Policy) (t : Task) (place : ℕ) → place < run_length policy t
    → (run_at policy t t.runs).start + place < t.moved
byte_within policy t place h =
    let w = run_within policy t.blocks t.size t.moved t.runs in
    less (run_at policy t t.runs).start (run_at policy t t.runs).end place t.moved h w
  where
    less : (a b i m : ℕ) → i < b - a → b ≤ m → a + i < m
    less a b i m h e = omega (arith, h, e)

-- More runs follow it.
more_by : (policy : Policy) (blocks size moved i : ℕ) → HasMost policy → 1 ≤ moved → moved ≡ blocks * size
    → i + 1 < runs_in policy (Some blocks) → MoreRuns policy i (step_in policy (Some blocks) size)
    ((run_in policy (Some blocks) size moved i).end - (run_in policy (Some blocks) size moved i).start)
more_by Policy.Never blocks size moved i m h e l = absurd omega (arith, l)
more_by Policy.Command blocks size moved i m h e l = absurd omega (arith, l)
more_by (Policy.Burst most) blocks size moved i m h e l =
    let left : (i + 1) * most < blocks = blocks_left (i + 1) blocks most m l in
    let less : (i + 1) * most * size < blocks * size = times_less
    ((i + 1) * most) blocks size left (size_some blocks size moved h e) in
    let start = mul_assoc (i + 1) most size in
    let next : (i + 1) * (most * size) ≡ i * (most * size) + most * size = split i (most * size) in
    let whole : min (i * (most * size) + most * size) moved ≡ i * (most * size) + most * size = min_first
    (i * (most * size) + most * size) moved (omega (arith, less, start, next, e)) in
    in_bursts most refl (ap (λ (x : ℕ). i * (most * size) + (x - i * (most * size))) whole
    ∙ back (i * (most * size)) (most * size) ∙ sym next)
  where
    split : (a c : ℕ) → (a + 1) * c ≡ a * c + c
    split a c = omega arith

    back : (a c : ℕ) → a + (a + c - a) ≡ a + c
    back a c = omega arith
more_by (Policy.NoSave most) blocks size moved i m h e l = from_start most refl refl

pub more_runs : (policy : Policy) (t : Task) → RunsFit policy t → nat_lt (t.runs + 1) (runs_in_all policy t) ≡ true
    → MoreRuns policy t.runs (step_in policy t.blocks t.size) (run_length policy t)
more_runs policy t f e =
    let a = in_all policy t (t.runs + 1) e in go t.blocks refl a.0 a.1
  where
    go : (o : Option ℕ) → t.blocks ≡ o → (t.moved == 0) ≡ false → t.runs + 1 < runs_in policy t.blocks
        → MoreRuns policy t.runs (step_in policy t.blocks t.size) (run_length policy t)
    go None z some l =
        let one = subst (λ (b : Option ℕ). t.runs + 1 < runs_in policy b) z l in
        absurd omega (arith, one)
    go (Some blocks) z some l = subst (λ (b : Option ℕ). MoreRuns policy t.runs (step_in policy b t.size)
        ((run_in policy b t.size t.moved t.runs).end - (run_in policy b t.size t.moved t.runs).start)) (sym z)
        (more_by policy blocks t.size t.moved t.runs f.most (some_count t.moved some) (f.moved blocks z some)
        (subst (λ (b : Option ℕ). t.runs + 1 < runs_in policy b) z l))

-- Where more runs follow the data are cut.
pub more_cut : (policy : Policy) (t : Task) → nat_lt (t.runs + 1) (runs_in_all policy t) ≡ true
    → policy_by policy t.blocks ≡ policy
more_cut policy t e = go t.blocks refl (in_all policy t (t.runs + 1) e).1
  where
    go : (o : Option ℕ) → t.blocks ≡ o → t.runs + 1 < runs_in policy t.blocks → policy_by policy t.blocks ≡ policy
    go None z l = let one = subst (λ (b : Option ℕ). t.runs + 1 < runs_in policy b) z l in absurd omega (arith, one)
    go (Some blocks) z l = ap (policy_by policy) z
