-- The measure is within the budget at the start.
use Rattle.measure_laws.proofs
use proofs.Names.{ℕ, suc, ◌≡◌, ◌≤◌, ◌∙◌, Bool, true, false, List, [], ◌∷◌, length, refl, ap, arith, Option, Some, None}
use proofs.Names.{nat_tests, AllByRecursion, ◌+◌, ◌-◌, ◌*◌, ◌==◌, if◌then◌else◌, nat_lt, need_of, ScenarioValue}
use proofs.Names.{AbortDef, CmdDef, FaultDef, HostDef, Policy, ResetDef, bytes_of_all, data_runs, runs_of_all}
use proofs.Names.{faults_in_order, with_fault, retries_of, own_at, RunState, drives_of, first_run_state, obeys_fits}
use proofs.Names.{FitsBus, IsHostLine, aborts_left, awaits_reset, bytes_after, bytes_over, commands_left, cut_bytes}
use proofs.Names.{one_where, resets_left, StartsWithin}

-- ---- few tries

pub few_retries : (s : ScenarioValue) (hosts : List HostDef) (dev : ℕ) → AllByRecursion (λ h. IsHostLine s h) hosts
    → retries_of hosts dev ≤ 16
few_retries s [] dev f = omega arith
few_retries s (h ∷ hosts) dev f = go (few_retries s hosts dev f.1) (h.dev == dev)
  where
    go : retries_of hosts dev ≤ 16 → (q : Bool) → (if q then h.retries else retries_of hosts dev) ≤ 16
    go rest true = f.0.few
    go rest false = rest

-- ---- bytes

cut : (policy : Policy) (size need : ℕ) → cut_bytes policy size need 0 ≤ 2 * need
cut Policy.Never size need = grind arith
cut _ size need = grind arith

over : (policy : Policy) (range : Option (ℕ × ℕ)) (size need : ℕ) → bytes_over policy range size need 0 ≤ 2 * need
over policy None size need = grind arith
over policy (Some range) size need = cut policy size need

pub few_bytes : (s : ScenarioValue) (c : CmdDef) → bytes_after s c 0 ≤ 2 * need_of s c
few_bytes s c = over _ _ _ (need_of s c)

-- ---- commands

one_command : (retries runs bytes need : ℕ) → retries ≤ 16 → bytes ≤ 2 * need
    → 64 * (retries + 1 - 0) + (2 * 4096 + 1024 * (runs + 1) + 8 * bytes)
    ≤ 128 * (2 * need + 128) + 4096 * (runs + 8) + 1024
one_command retries runs bytes need f b = grind arith

start_commands : (s : ScenarioValue) (m : ℕ) (commands : List CmdDef) → FitsBus s
    → commands_left s (first_run_state s) m commands
    ≤ 128 * bytes_of_all s commands + 4096 * runs_of_all s commands + 1024 * length commands
start_commands s m [] f = omega arith
start_commands s m (c ∷ commands) f =
    let rest = start_commands s (m + 1) commands f in
    let one = one_command (retries_of s.hosts c.host) (data_runs s c) (bytes_after s c 0)
    (need_of s c) (few_retries s s.hosts c.host f.hosts) (few_bytes s c) in
    grind arith

-- ---- aborts, resets and faults

start_aborts : (s : ScenarioValue) (m : ℕ) (aborts : List AbortDef) → FitsBus s
    → aborts_left s (first_run_state s).story.sent m aborts ≤ 8192 * length aborts
start_aborts s m [] f = omega arith
start_aborts s m (a ∷ aborts) f =
    let rest = start_aborts s (m + 1) aborts f in
    let few = few_retries s s.hosts a.host f.hosts in
    grind arith

one_at_most : (q : Bool) → one_where q ≤ 1
one_at_most true = omega arith
one_at_most false = omega arith

pub start_resets : (k : RunState) (resets : List ResetDef) → resets_left k resets ≤ length resets
start_resets k [] = omega arith
start_resets k (r ∷ resets) =
    let rest = start_resets k resets in
    let one = one_at_most (awaits_reset (drives_of k r.dev).rst (own_at k.owns r.dev) r.at) in
    grind arith

one_fault : (f : FaultDef) (faults : List FaultDef) → length (with_fault f faults) ≡ suc (length faults)
one_fault f [] = refl
one_fault f (g ∷ faults) = go (one_fault f faults) (nat_lt g.at f.at)
  where
    go : length (with_fault f faults) ≡ suc (length faults)
        → (q : Bool) → length (if q then g ∷ with_fault f faults else f ∷ (g ∷ faults)) ≡ suc (suc (length faults))
    go rest true = ap suc rest
    go rest false = refl

pub all_faults : (faults : List FaultDef) → length (faults_in_order faults) ≡ length faults
all_faults [] = refl
all_faults (f ∷ faults) = one_fault f (faults_in_order faults) ∙ ap suc (all_faults faults)

-- ---- all

pub starts : StartsWithin
starts s o =
    let f = obeys_fits s o in
    let c = start_commands s 1 s.commands f in
    let a = start_aborts s 1 s.aborts f in
    let r = start_resets (first_run_state s) s.resets in
    let faults = all_faults s.faults in
    let bytes = bytes_of_all s s.commands in
    grind (arith, nat_tests)
