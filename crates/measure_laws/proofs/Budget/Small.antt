-- The measure at the start has 32 bits: the commands of a scenario need at most 1,048,576 bytes in all, and resets and
-- faults are few.
use Rattle.measure_laws.proofs
use proofs.Names.{ℕ, zero, suc, ◌≡◌, ◌≤◌, ◌<◌, Bool, true, false, List, [], ◌∷◌, length, refl, sym, subst, arith}
use proofs.Names.{Option, Some, None, Result, Ok, Err, length-append, max, nat_tests, sum_by-cons, div_below}
use proofs.Names.{AllByRecursion, find, sum_by, ◌++◌, ◌+◌, ◌-◌, ◌*◌, ◌/◌, ◌==◌, if◌then◌else◌, nat_le, nat_lt}
use proofs.Names.{command_of, CdbFault, Command, all_needs, each_need, bind_ok, guard_ok, ok_is, plain_need, tape_line}
use proofs.Names.{load_line, Said, scsi_line, initiator_line, target_line, unit_line, fill_line, cmd_line, abort_line}
use proofs.Names.{reset_line, fault_line, end_line, has_device, has_target, unit_of, is_tape, block_bytes, moved}
use proofs.Names.{moved_by, need_of, need_at, tape_def, load_def, Progress, abort_def, added, fault_def, fill_def}
use proofs.Names.{fits_version, full_cmd_def, guard, has_abort_room, host_def, in_8, in_order, kind_of, nothing, rank}
use proofs.Names.{reset_def, said_after, target_def, time_in, unit_def, within, ScenarioValue, Obeys, built, saids}
use proofs.Names.{AbortDef, CmdDef, FaultDef, Policy, ResetDef, TargetDef, UnitDef, range_of, data_runs, longest_need}
use proofs.Names.{runs_at, runs_by, runs_of, runs_over, retries_of, first_run_state, obeys_fits, fault_by, reset_by}
use proofs.Names.{FitsBus, some_count, aborts_left, bytes_after, commands_left, resets_left, measure, for_fault}
use proofs.Budget.Start.{all_faults, few_bytes, few_retries, start_resets}
use Rattle.due_model.specs.cdb_codec.specs.declared.command.Command.TheVariants as commands

-- ---- a command makes at most two runs for each byte that it needs

times_more : (b m : ℕ) → b ≤ b * suc m
times_more b m = grind arith

few_bursts : (most blocks : ℕ) → (blocks + (most - 1)) / most ≤ blocks
few_bursts zero blocks = grind arith
few_bursts (suc m) blocks =
    let t = times_more blocks m in
    let w : blocks + (suc m - 1) < suc blocks * suc m = more blocks m t in
    let d = div_below (blocks + (suc m - 1)) (suc m) (suc blocks) (omega arith) w in
    omega arith
  where
    more : (b m : ℕ) → b ≤ b * suc m → b + (suc m - 1) < suc b * suc m
    more b m t = grind arith

runs_by_few : (policy : Policy) (blocks need : ℕ) → 1 ≤ need → blocks ≤ need → runs_by policy blocks ≤ 2 * need
runs_by_few Policy.Never blocks need some h = omega arith
runs_by_few Policy.Command blocks need some h = omega arith
runs_by_few (Policy.Burst most) blocks need some h = let w = few_bursts most blocks in omega arith
runs_by_few (Policy.NoSave most) blocks need some h =
    elim (nat_le blocks most) as (λ q. (if q then 1 else 2) ≤ 2 * need) [ true ↦ omega arith | false ↦ omega arith ]

-- A command moves no fewer bytes than blocks.
some_blocks : (u : Option UnitDef) (lba i : ℕ) → 1 ≤ block_bytes u lba i → i ≤ block_bytes u lba i
some_blocks None lba i h = absurd (omega arith)
some_blocks (Some u) lba i h = go (nat_le (lba + i) u.blocks) h
  where
    by : (i size : ℕ) → 1 ≤ i * size → i ≤ i * size
    by i zero h = absurd (omega arith)
    by i (suc m) h = times_more i m

    go : (q : Bool) → 1 ≤ (if q then i * u.size else 0) → i ≤ (if q then i * u.size else 0)
    go true h = by i u.size h
    go false h = absurd (omega arith)

runs_of_few : (policy : Policy) (c : Command) (u : Option UnitDef) → 1 ≤ moved c u
    → runs_over policy (range_of c) ≤ 2 * moved c u
runs_of_few policy (commands.Read6 lba count) u h = runs_by_few policy _ _ h (some_blocks u lba _ h)
runs_of_few policy (commands.Write6 lba count) u h = runs_by_few policy _ _ h (some_blocks u lba _ h)
runs_of_few policy (commands.Read10 lba count) u h = runs_by_few policy _ _ h (some_blocks u lba count h)
runs_of_few policy (commands.Write10 lba count) u h = runs_by_few policy _ _ h (some_blocks u lba count h)
runs_of_few policy _ u h = omega arith

pub few_runs : (s : ScenarioValue) (c : CmdDef) → data_runs s c ≤ 2 * need_of s c
unfolding need_of
few_runs s c = go (need_of s c == 0) refl
  where
    by : (t : TargetDef) (r : Result Command CdbFault) → 1 ≤ moved_by r (unit_of s c.target c.unit)
        → runs_of t.disc r ≤ 2 * moved_by r (unit_of s c.target c.unit)
    by t (Ok k) h = runs_of_few t.disc k (unit_of s c.target c.unit) h
    by t (Err fault) h = omega arith

    line : Option TargetDef
    line = find (λ (t : TargetDef). t.dev == c.target) s.targets

    -- At a disk.
    at : (o : Option TargetDef) → 1 ≤ moved_by (command_of c.cdb) (unit_of s c.target c.unit)
        → runs_at o c ≤ 2 * moved_by (command_of c.cdb) (unit_of s c.target c.unit)
    at None h = omega arith
    at (Some t) h = by t (command_of c.cdb) h

    -- At a tape there is one run.
    one : (n : ℕ) → 1 ≤ n → 1 ≤ 2 * n
    one n h = omega (arith, h)

    kind : (tape there : Bool)
        → 1 ≤ (if there then need_at tape c.cdb (unit_of s c.target c.unit) else 0)
        → (if tape then 1 else runs_at line c)
        ≤ 2 * (if there then need_at tape c.cdb (unit_of s c.target c.unit) else 0)
    kind true true h = one (need_at true c.cdb (unit_of s c.target c.unit)) h
    kind false true h = at line h
    kind tape false h = absurd (omega arith)

    go : (q : Bool) → (need_of s c == 0) ≡ q
        → (if q then 0 else if is_tape s c.target c.unit then 1 else runs_at line c) ≤ 2 * need_of s c
    go true e = omega arith
    go false e = kind (is_tape s c.target c.unit) (has_target s c.target) (some_count (need_of s c) e)

-- ---- resets and faults are few

pub record FewLines (s : ScenarioValue) : Type 0 where
  pub resets : length s.resets ≤ 64
  pub faults : length s.faults ≤ 64

reset_room : (s : ScenarioValue) (x : Said) (r : ResetDef) → reset_by s x ≡ Ok r → length s.resets < 64
unfolding reset_def
reset_room s (reset_line f) r e =
    let b1 = bind_ok (in_8 f.device) _ r e in
    let b2 = bind_ok (time_in f.at) _ r b1.2 in
    let b3 = bind_ok (guard 6 (has_device s b1.0)) _ r b2.2 in
    let b4 = bind_ok (guard 8 (has_abort_room s)) _ r b3.2 in
    room s (guard_ok 8 _ b4.0 b4.1)
  where
    room : (s : ScenarioValue) → has_abort_room s ≡ true → length s.resets < 64
    room s e = grind (arith, nat_tests)
reset_room s _ r e = absurd cc

fault_room : (s : ScenarioValue) (x : Said) (y : FaultDef) → fault_by s x ≡ Ok y → length s.faults < 64
unfolding fault_def
fault_room s (fault_line f) y e =
    let b1 = bind_ok (time_in f.at) _ y e in
    let b2 = bind_ok (within f.bit 0 8) _ y b1.2 in
    let b3 = bind_ok (guard 8 (nat_lt (length s.faults) 64)) _ y b2.2 in
    room s (guard_ok 8 _ b3.0 b3.1)
  where
    room : (s : ScenarioValue) → nat_lt (length s.faults) 64 ≡ true → length s.faults < 64
    room s e = grind (arith, nat_tests)
fault_room s _ y e = absurd cc

one_more : {X : Type 0} (xs : List X) (x : X) (m : ℕ) → length xs < m → length (xs ++ x ∷ []) ≤ m
one_more xs x m lt = let w = length-append xs (x ∷ []) in omega arith

few_added : (d z : Progress) (x : Said) → added d x ≡ Ok z → FewLines d.scenario → FewLines z.scenario
unfolding added
few_added d z (scsi_line v) e a =
    subst (λ (g : Progress). FewLines g.scenario) (ok_is _ z e) (record { resets = a.resets; faults = a.faults })
few_added d z (initiator_line f) e a =
    let b = bind_ok (host_def d.scenario f) _ z e in
    subst (λ (g : Progress). FewLines g.scenario) (ok_is _ z b.2) (record { resets = a.resets; faults = a.faults })
few_added d z (target_line f) e a =
    let b = bind_ok (target_def d.scenario f) _ z e in
    subst (λ (g : Progress). FewLines g.scenario) (ok_is _ z b.2) (record { resets = a.resets; faults = a.faults })
few_added d z (unit_line f) e a =
    let b = bind_ok (unit_def d.scenario f) _ z e in
    subst (λ (g : Progress). FewLines g.scenario) (ok_is _ z b.2) (record { resets = a.resets; faults = a.faults })
few_added d z (fill_line f) e a =
    let b = bind_ok (fill_def d.scenario f) _ z e in
    subst (λ (g : Progress). FewLines g.scenario) (ok_is _ z b.2) (record { resets = a.resets; faults = a.faults })
few_added d z (tape_line f) e a =
    let b = bind_ok (tape_def d.scenario f) _ z e in
    subst (λ (g : Progress). FewLines g.scenario) (ok_is _ z b.2) (record { resets = a.resets; faults = a.faults })
few_added d z (load_line f) e a =
    let b = bind_ok (load_def d.scenario f) _ z e in
    subst (λ (g : Progress). FewLines g.scenario) (ok_is _ z b.2) (record { resets = a.resets; faults = a.faults })
few_added d z (cmd_line f) e a =
    let b = bind_ok (full_cmd_def d.scenario d.needs f) _ z e in
    subst (λ (g : Progress). FewLines g.scenario) (ok_is _ z b.2) (record { resets = a.resets; faults = a.faults })
few_added d z (abort_line f) e a =
    let b = bind_ok (abort_def d.scenario f) _ z e in
    subst (λ (g : Progress). FewLines g.scenario) (ok_is _ z b.2) (record { resets = a.resets; faults = a.faults })
few_added d z (reset_line f) e a =
    let b = bind_ok (reset_def d.scenario f) _ z e in
    subst (λ (g : Progress). FewLines g.scenario) (ok_is _ z b.2) (record {
      resets = one_more d.scenario.resets b.0 64 (reset_room d.scenario (reset_line f) b.0 b.1);
      faults = a.faults;
    })
few_added d z (fault_line f) e a =
    let b = bind_ok (fault_def d.scenario f) _ z e in
    subst (λ (g : Progress). FewLines g.scenario) (ok_is _ z b.2) (record {
      resets = a.resets;
      faults = one_more d.scenario.faults b.0 64 (fault_room d.scenario (fault_line f) b.0 b.1);
    })
few_added d z end_line e a = subst (λ (g : Progress). FewLines g.scenario) (ok_is d z e) a

few_after : (d z : Progress) (x : Said) → said_after d x ≡ Ok z → FewLines d.scenario → FewLines z.scenario
unfolding said_after
few_after d z x e a =
    let v = bind_ok (guard 2 (fits_version d.scenario.version x)) _ z e in
    let o = bind_ok (guard 3 (in_order (rank d.last) (rank (kind_of x)))) _ z v.2 in
    let b = bind_ok (added d x) _ z o.2 in
    let f = few_added d b.0 x b.1 a in
    subst (λ (g : Progress). FewLines g.scenario) (ok_is _ z b.2) (record { resets = f.resets; faults = f.faults })

few_built : (d z : Progress) (xs : List Said) → built d xs ≡ Ok z → FewLines d.scenario → FewLines z.scenario
few_built d z [] e a = subst (λ (g : Progress). FewLines g.scenario) (ok_is d z e) a
few_built d z (x ∷ xs) e a = let b = bind_ok (said_after d x) _ z e in few_built b.0 z xs b.2 (few_after d b.0 x b.1 a)

pub obeys_few : (s : ScenarioValue) → Obeys s → FewLines s
obeys_few s o =
    let b = bind_ok (built nothing (saids s)) _ s o.lawful in
    subst FewLines (ok_is b.0.scenario s b.2)
    (few_built nothing b.0 (saids s) b.1 (record { resets = omega arith; faults = omega arith }))

-- ---- the sum

one_command : (retries runs bytes need : ℕ) → retries ≤ 16 → bytes ≤ 2 * need → runs ≤ 2 * need
    → 64 * (retries + 1 - 0) + (2 * 4096 + 1024 * (runs + 1) + 8 * bytes) ≤ 10304 + 2064 * need
one_command retries runs bytes need f b r = grind arith

small_commands : (s : ScenarioValue) (m : ℕ) (commands : List CmdDef) → FitsBus s
    → commands_left s (first_run_state s) m commands ≤ 10304 * length commands + 2064 * sum_by (need_of s) commands
small_commands s m [] f = omega arith
small_commands s m (c ∷ commands) f =
    let rest = small_commands s (m + 1) commands f in
    let one = one_command (retries_of s.hosts c.host) (data_runs s c) (bytes_after s c 0)
    (need_of s c) (few_retries s s.hosts c.host f.hosts) (few_bytes s c) (few_runs s c) in
    let total = sum_by-cons (need_of s) c commands in
    omega arith

small_aborts : (s : ScenarioValue) (m : ℕ) (aborts : List AbortDef) → FitsBus s
    → aborts_left s (first_run_state s).story.sent m aborts ≤ 5184 * length aborts
small_aborts s m [] f = omega arith
small_aborts s m (a ∷ aborts) f =
    let rest = small_aborts s (m + 1) aborts f in
    let few = few_retries s s.hosts a.host f.hosts in
    grind arith

longest : (s : ScenarioValue) (commands : List CmdDef) → AllByRecursion (λ c. need_of s c ≤ 65536) commands
    → longest_need s commands ≤ 65536
longest s [] h = omega arith
longest s (c ∷ commands) h = both (need_of s c) (longest_need s commands) h.0 (longest s commands h.1)
  where
    both : (a b : ℕ) → a ≤ 65536 → b ≤ 65536 → max a b ≤ 65536
    both a b x y = grind arith

times_few : (a m b : ℕ) → a ≤ m → a * b ≤ m * b
times_few a m b h = grind arith

sum_small : (commands m needs aborts an resets rn faults : ℕ) → commands ≤ 10304 * m + 2064 * needs
    → m ≤ 4096 → needs ≤ 1048576 → aborts ≤ 5184 * an → an ≤ 64 → resets ≤ rn → rn ≤ 64 → faults ≤ 525440 * 64
    → commands + aborts + 64 * resets + faults + 40 + 0 < 4294967295
sum_small commands m needs aborts an resets rn faults a b c d e f g h = omega arith

pub small_start : (s : ScenarioValue) → Obeys s → measure s [] < 4294967295
small_start s o =
    let f = obeys_fits s o in
    let few = obeys_few s o in
    let long = longest s s.commands (each_need s o) in
    let fault : for_fault s ≤ 525440 = omega arith in
    let same = all_faults s.faults in
    let count : length (first_run_state s).faults ≤ 64 = let w = few.faults in omega arith in
    let faults : for_fault s * length (first_run_state s).faults ≤ 525440 * 64 = product
    (for_fault s) (length (first_run_state s).faults) fault count in
    sum_small (commands_left s (first_run_state s) 1 s.commands) (length s.commands)
    (sum_by (need_of s) s.commands) (aborts_left s (first_run_state s).story.sent 1 s.aborts) (length s.aborts)
    (resets_left (first_run_state s) s.resets) (length s.resets) (for_fault s * length (first_run_state s).faults)
    (small_commands s 1 s.commands f) f.few_commands (all_needs s o) (small_aborts s 1 s.aborts f) f.few_aborts
    (start_resets (first_run_state s) s.resets) few.resets faults
  where
    product : (a b : ℕ) → a ≤ 525440 → b ≤ 64 → a * b ≤ 525440 * 64
    product a b x y = let t = times_few a 525440 b x in omega arith
