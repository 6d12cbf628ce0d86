-- The initiators of a scenario that obeys the rules of its text may have a command open, and are there; and its units
-- are of targets that are there.
use Rattle.progress_laws.proofs
use proofs.Names.{ℕ, ◌≡◌, ◌<◌, Bool, true, false, not, ◌∙◌, List, [], ◌∷◌, ◌++◌, Option, Some, None, Ok, refl, sym, ap}
use proofs.Names.{subst, arith, ◌||◌, AllByRecursion, find, list_any, if◌then◌else◌, ◌==◌, is_some, cond, map, wrong'}
use proofs.Names.{bind_ok, guard_ok, ok_is, within_ok, tape_line, load_line, Said, scsi_line, initiator_line}
use proofs.Names.{target_line, unit_line, fill_line, cmd_line, abort_line, reset_line, fault_line, end_line, has_device}
use proofs.Names.{has_target, unit_of, tape_unit, units_of, need_of, sent_of, tape_def, load_def, Progress, guard}
use proofs.Names.{within, in_8, period_in, size_in, host_def, target_def, unit_def, fill_def, full_cmd_def, abort_def}
use proofs.Names.{reset_def, fault_def, added, said_after, fits_version, in_order, rank, kind_of, nothing}
use proofs.Names.{ScenarioValue, saids, built, Obeys, LATENCY_LIMIT, OPEN_LIMIT, RETRY_LIMIT, HOST_OFFSET_LIMIT}
use proofs.Names.{LAG_LIMIT, BLOCK_LIMIT, DEPTH_LIMIT, HostDef, TapeDef, TargetDef, UnitDef, is_initiator}
use proofs.Names.{open_limit_of, host_latency, target_latency, all_are, all_more, each_unit, host_by, tape_read}
use proofs.{Names.{unit_by, HasDevice, Any, each_line, host_found}, Quiet.Connections.{host_there}}

abbrev pub HasOpen : HostDef → Type 0
HasOpen h = 0 < h.most

abbrev pub HaveOpen : ScenarioValue → Type 0
HaveOpen s = AllByRecursion HasOpen s.hosts

host_open : (s : ScenarioValue) (x : Said) (h : HostDef) → host_by s x ≡ Ok h → HasOpen h
unfolding host_def
host_open s (initiator_line f) h e =
    let b1 = bind_ok (in_8 f.device) _ h e in
    let b2 = bind_ok (within f.latency 0 LATENCY_LIMIT) _ h b1.2 in
    let b3 = bind_ok (within f.«open» 1 OPEN_LIMIT) _ h b2.2 in
    let b4 = bind_ok (within f.retries 0 RETRY_LIMIT) _ h b3.2 in
    let b5 = bind_ok (period_in f.period) _ h b4.2 in
    let b6 = bind_ok (within f.offset 0 HOST_OFFSET_LIMIT) _ h b5.2 in
    let b7 = bind_ok (within f.lag 0 LAG_LIMIT) _ h b6.2 in
    let b8 = bind_ok (guard 5 (not (has_device s b1.0))) _ h b7.2 in
    let w = (within_ok f.«open» 1 32 b3.0 b3.1).1 in
    subst HasOpen (ok_is _ h b8.2) (omega (arith, w))
host_open s _ h e = absurd cc

have_open : (s : ScenarioValue) → Obeys s → HaveOpen s
have_open s o = (each_line HasOpen Any Any Any
    (record { host = host_open; target = λ x f d e. tt; command = λ x f d e. tt; abort = λ x f d e. tt }) s o).hosts

limit_of : (hosts : List HostDef) (dev : ℕ) → AllByRecursion HasOpen hosts → is_initiator hosts dev ≡ true
    → 0 < open_limit_of hosts dev
limit_of [] dev a e = wrong' e
limit_of (h ∷ hosts) dev a e = go (h.dev == dev) (λ z. limit_of hosts dev a.1 z) e
  where
    go : (q : Bool) → (is_initiator hosts dev ≡ true → 0 < open_limit_of hosts dev)
        → (q || is_initiator hosts dev) ≡ true → 0 < (if q then h.most else open_limit_of hosts dev)
    go true more z = a.0
    go false more z = more z

pub some_open : (s : ScenarioValue) (dev : ℕ) → Obeys s → is_initiator s.hosts dev ≡ true
    → 0 < open_limit_of s.hosts dev
some_open s dev o e = limit_of s.hosts dev (have_open s o) e

-- ---- units are of targets

abbrev pub IsOfTarget : List TargetDef → UnitDef → Type 0
IsOfTarget targets u = list_any (λ (t : TargetDef). t.dev == u.target) targets ≡ true

abbrev pub AreOfTargets : ScenarioValue → Type 0
AreOfTargets s = AllByRecursion (IsOfTarget s.targets) (units_of s)

-- As the lines are read, the disks and the tapes.
abbrev IsTapeOf : List TargetDef → TapeDef → Type 0
IsTapeOf targets t = IsOfTarget targets (tape_unit t)

abbrev AreRead : ScenarioValue → Type 0
AreRead s = AllByRecursion (IsOfTarget s.targets) s.units × AllByRecursion (IsTapeOf s.targets) s.tapes

unit_target : (s : ScenarioValue) (x : Said) (u : UnitDef) → unit_by s x ≡ Ok u → IsOfTarget s.targets u
unfolding unit_def
unit_target s (unit_line f) u e =
    let b1 = bind_ok (in_8 f.target) _ u e in
    let b2 = bind_ok (in_8 f.unit) _ u b1.2 in
    let b3 = bind_ok (within f.blocks 1 BLOCK_LIMIT) _ u b2.2 in
    let b4 = bind_ok (size_in f.size) _ u b3.2 in
    let b5 = bind_ok (within f.depth 1 DEPTH_LIMIT) _ u b4.2 in
    let b6 = bind_ok (guard 5 (not (is_some (unit_of s b1.0 b2.0)))) _ u b5.2 in
    let b7 = bind_ok (guard 6 (has_target s b1.0)) _ u b6.2 in
    subst (IsOfTarget s.targets) (ok_is _ u b7.2) (guard_ok 6 _ b7.0 b7.1)
unit_target s _ u e = absurd cc

still_any : (f : TargetDef → Bool) (targets : List TargetDef) (t : TargetDef) → list_any f targets ≡ true
    → list_any f (targets ++ t ∷ []) ≡ true
still_any f [] t e = wrong' e
still_any f (x ∷ targets) t e = go (f x) (λ z. still_any f targets t z) e
  where
    go : (q : Bool) → (list_any f targets ≡ true → list_any f (targets ++ t ∷ []) ≡ true)
        → (q || list_any f targets) ≡ true → (q || list_any f (targets ++ t ∷ [])) ≡ true
    go true more z = refl
    go false more z = more z

abbrev AreTargetsIn : Progress → Type 0
AreTargetsIn d = AreRead d.scenario

targets_added : (d z : Progress) (x : Said) → added d x ≡ Ok z → AreTargetsIn d → AreTargetsIn z
unfolding added need_of sent_of
targets_added d z (scsi_line v) e a = subst AreTargetsIn (ok_is _ z e) a
targets_added d z (initiator_line f) e a =
    let b = bind_ok (host_def d.scenario f) _ z e in
    subst AreTargetsIn (ok_is _ z b.2) a
targets_added d z (target_line f) e a =
    let b = bind_ok (target_def d.scenario f) _ z e in
    let ts : List TargetDef = d.scenario.targets ++ b.0 ∷ [] in
    subst AreTargetsIn (ok_is _ z b.2) (
      all_are (IsOfTarget d.scenario.targets) (IsOfTarget ts) d.scenario.units
          (λ u w. still_any (λ (t : TargetDef). t.dev == u.target) d.scenario.targets b.0 w) a.0,
      all_are (IsTapeOf d.scenario.targets) (IsTapeOf ts) d.scenario.tapes
          (λ x w. still_any (λ (t : TargetDef). t.dev == x.target) d.scenario.targets b.0 w) a.1,
    )
targets_added d z (unit_line f) e a =
    let b = bind_ok (unit_def d.scenario f) _ z e in
    subst AreTargetsIn (ok_is _ z b.2) (
      all_more (IsOfTarget d.scenario.targets) d.scenario.units b.0 a.0 (unit_target d.scenario (unit_line f) b.0 b.1),
      a.1,
    )
targets_added d z (fill_line f) e a =
    let b = bind_ok (fill_def d.scenario f) _ z e in
    subst AreTargetsIn (ok_is _ z b.2) a
targets_added d z (tape_line f) e a =
    let b = bind_ok (tape_def d.scenario f) _ z e in
    subst AreTargetsIn (ok_is _ z b.2) (
      a.0,
      all_more (IsTapeOf d.scenario.targets) d.scenario.tapes b.0 a.1
          (tape_read d.scenario (tape_line f) b.0 b.1).known,
    )
targets_added d z (load_line f) e a =
    let b = bind_ok (load_def d.scenario f) _ z e in
    subst AreTargetsIn (ok_is _ z b.2) a
targets_added d z (cmd_line f) e a =
    let b = bind_ok (full_cmd_def d.scenario d.needs f) _ z e in
    subst AreTargetsIn (ok_is _ z b.2) a
targets_added d z (abort_line f) e a =
    let b = bind_ok (abort_def d.scenario f) _ z e in
    subst AreTargetsIn (ok_is _ z b.2) a
targets_added d z (reset_line f) e a =
    let b = bind_ok (reset_def d.scenario f) _ z e in
    subst AreTargetsIn (ok_is _ z b.2) a
targets_added d z (fault_line f) e a =
    let b = bind_ok (fault_def d.scenario f) _ z e in
    subst AreTargetsIn (ok_is _ z b.2) a
targets_added d z end_line e a = subst AreTargetsIn (ok_is d z e) a

targets_after : (d z : Progress) (x : Said) → said_after d x ≡ Ok z → AreTargetsIn d → AreTargetsIn z
unfolding said_after
targets_after d z x e a =
    let v = bind_ok (guard 2 (fits_version d.scenario.version x)) _ z e in
    let o = bind_ok (guard 3 (in_order (rank d.last) (rank (kind_of x)))) _ z v.2 in
    let b = bind_ok (added d x) _ z o.2 in
    let w = targets_added d b.0 x b.1 a in
    subst AreTargetsIn (ok_is _ z b.2) w

targets_built : (d z : Progress) (xs : List Said) → built d xs ≡ Ok z → AreTargetsIn d → AreTargetsIn z
targets_built d z [] e a = subst AreTargetsIn (ok_is d z e) a
targets_built d z (x ∷ xs) e a =
    let b = bind_ok (said_after d x) _ z e in
    targets_built b.0 z xs b.2 (targets_after d b.0 x b.1 a)

pub are_of_targets : (s : ScenarioValue) → Obeys s → AreOfTargets s
are_of_targets s o =
    let b = bind_ok (built nothing (saids s)) _ s o.lawful in
    let read : AreRead s = subst AreRead (ok_is b.0.scenario s b.2)
    (targets_built nothing b.0 (saids s) b.1 (tt, tt)) in
    each_unit (IsOfTarget s.targets) s read.0 (mapped s.tapes read.1)
  where
    mapped : (tapes : List TapeDef) → AllByRecursion (IsTapeOf s.targets) tapes
        → AllByRecursion (IsOfTarget s.targets) (map tape_unit tapes)
    mapped [] a = tt
    mapped (t ∷ tapes) a = (a.0, mapped tapes a.1)

-- ---- devices that are there

found_target : (targets : List TargetDef) (dev : ℕ) → list_any (λ (t : TargetDef). t.dev == dev) targets ≡ true
    → is_some (find (λ (t : TargetDef). t.dev == dev) targets) ≡ true
found_target [] dev e = wrong' e
found_target (h ∷ hosts) dev e = go (h.dev == dev) (λ z. found_target hosts dev z) e
  where
    go : (q : Bool) → (list_any (λ (t : TargetDef). t.dev == dev) hosts ≡ true
        → is_some (find (λ (x : TargetDef). x.dev == dev) hosts) ≡ true)
        → (q || list_any (λ (t : TargetDef). t.dev == dev) hosts) ≡ true
        → is_some (cond q (Some h) (find (λ (x : TargetDef). x.dev == dev) hosts)) ≡ true
    go true more z = refl
    go false more z = more z

pub initiator_there : (s : ScenarioValue) (dev : ℕ) → is_initiator s.hosts dev ≡ true → HasDevice s dev
initiator_there s dev e = host_there s dev (host_found s.hosts dev e)

pub target_there : (s : ScenarioValue) (dev : ℕ) → list_any (λ (t : TargetDef). t.dev == dev) s.targets ≡ true
    → HasDevice s dev
target_there s dev e = go (find (λ (t : TargetDef). t.dev == dev) s.targets) refl (found_target s.targets dev e)
  where
    go : (o : Option TargetDef) → find (λ (t : TargetDef). t.dev == dev) s.targets ≡ o
        → is_some (find (λ (t : TargetDef). t.dev == dev) s.targets) ≡ true → HasDevice s dev
    go (Some t) f z = record {
      latency = t.latency;
      latency_is = λ i. target_latency (f i) (host_latency (find (λ (h : HostDef). h.dev == dev) s.hosts));
    }
    go None f z = wrong' (ap (λ (x : Option TargetDef). is_some x) (sym f) ∙ z)
