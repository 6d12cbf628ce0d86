-- The target of each unit of a scenario that obeys the rules of its text is a target of it.
use Rattle.right_laws.proofs
use proofs.Names.{ℕ, ◌≡◌, Bool, true, false, cond, ◌||◌, ◌∙◌, List, [], ◌∷◌, ◌++◌, Some, Ok, refl, sym, ap, subst, ◌==◌}
use proofs.Names.{◌&&◌, true≢false, eqb-true, AllByRecursion, find, list_any, map, and_first, bind_ok, ok_is, tape_line}
use proofs.Names.{load_line, Said, scsi_line, initiator_line, target_line, unit_line, fill_line, cmd_line, abort_line}
use proofs.Names.{reset_line, fault_line, end_line, has_target, unit_of, tape_unit, units_of, tape_def, load_def}
use proofs.Names.{Progress, guard, host_def, target_def, unit_def, fill_def, full_cmd_def, abort_def, reset_def}
use proofs.Names.{fault_def, added, said_after, fits_version, in_order, rank, kind_of, nothing, ScenarioValue, saids}
use proofs.Names.{built, Obeys, TapeDef, TargetDef, UnitDef, all_are, all_more, each_unit, unit_read, tape_read}
use proofs.Names.{none_some}

-- Lines of targets, of which one is of this device.
abbrev pub is_there : List TargetDef → ℕ → Bool
is_there targets dev = list_any (λ (t : TargetDef). t.dev == dev) targets

-- The disks and the tapes of these lines.
abbrev AreThere : List TargetDef → List UnitDef → List TapeDef → Type 0
AreThere targets units tapes = AllByRecursion (λ (u : UnitDef). is_there targets u.target ≡ true) units
    × AllByRecursion (λ (t : TapeDef). is_there targets t.target ≡ true) tapes

abbrev pub AreTargeted : ScenarioValue → Type 0
AreTargeted s = AreThere s.targets s.units s.tapes

there_still : (targets : List TargetDef) (more : TargetDef) (dev : ℕ) → is_there targets dev ≡ true
    → is_there (targets ++ more ∷ []) dev ≡ true
there_still [] more dev e = absurd (true≢false (sym e))
there_still (t ∷ targets) more dev e = go (t.dev == dev) e (λ z. there_still targets more dev z)
  where
    go : (q : Bool) → (q || is_there targets dev) ≡ true
        → (is_there targets dev ≡ true → is_there (targets ++ more ∷ []) dev ≡ true)
        → (q || is_there (targets ++ more ∷ []) dev) ≡ true
    go true z still = refl
    go false z still = still z

-- ---- any line more

targeted_added : (d z : Progress) (x : Said) → added d x ≡ Ok z → AreTargeted d.scenario → AreTargeted z.scenario
unfolding added
targeted_added d z (scsi_line v) e a = subst (λ (g : Progress). AreTargeted g.scenario) (ok_is _ z e) a
targeted_added d z (initiator_line f) e a =
    let b = bind_ok (host_def d.scenario f) _ z e in
    subst (λ (g : Progress). AreTargeted g.scenario) (ok_is _ z b.2) a
targeted_added d z (target_line f) e a =
    let b = bind_ok (target_def d.scenario f) _ z e in
    subst (λ (g : Progress). AreTargeted g.scenario) (ok_is _ z b.2) (
      all_are (λ (u : UnitDef). is_there d.scenario.targets u.target ≡ true)
          (λ (u : UnitDef). is_there (d.scenario.targets ++ b.0 ∷ []) u.target ≡ true) d.scenario.units
          (λ u t. there_still d.scenario.targets b.0 u.target t) a.0,
      all_are (λ (x : TapeDef). is_there d.scenario.targets x.target ≡ true)
          (λ (x : TapeDef). is_there (d.scenario.targets ++ b.0 ∷ []) x.target ≡ true) d.scenario.tapes
          (λ x t. there_still d.scenario.targets b.0 x.target t) a.1,
    )
targeted_added d z (unit_line f) e a =
    let b = bind_ok (unit_def d.scenario f) _ z e in
    subst (λ (g : Progress). AreTargeted g.scenario) (ok_is _ z b.2) (
      all_more (λ (u : UnitDef). is_there d.scenario.targets u.target ≡ true) d.scenario.units b.0 a.0
          (unit_read d.scenario (unit_line f) b.0 b.1).known,
      a.1,
    )
targeted_added d z (fill_line f) e a =
    let b = bind_ok (fill_def d.scenario f) _ z e in
    subst (λ (g : Progress). AreTargeted g.scenario) (ok_is _ z b.2) a
targeted_added d z (tape_line f) e a =
    let b = bind_ok (tape_def d.scenario f) _ z e in
    subst (λ (g : Progress). AreTargeted g.scenario) (ok_is _ z b.2) (
      a.0,
      all_more (λ (x : TapeDef). is_there d.scenario.targets x.target ≡ true) d.scenario.tapes b.0 a.1
          (tape_read d.scenario (tape_line f) b.0 b.1).known,
    )
targeted_added d z (load_line f) e a =
    let b = bind_ok (load_def d.scenario f) _ z e in
    subst (λ (g : Progress). AreTargeted g.scenario) (ok_is _ z b.2) a
targeted_added d z (cmd_line f) e a =
    let b = bind_ok (full_cmd_def d.scenario d.needs f) _ z e in
    subst (λ (g : Progress). AreTargeted g.scenario) (ok_is _ z b.2) a
targeted_added d z (abort_line f) e a =
    let b = bind_ok (abort_def d.scenario f) _ z e in
    subst (λ (g : Progress). AreTargeted g.scenario) (ok_is _ z b.2) a
targeted_added d z (reset_line f) e a =
    let b = bind_ok (reset_def d.scenario f) _ z e in
    subst (λ (g : Progress). AreTargeted g.scenario) (ok_is _ z b.2) a
targeted_added d z (fault_line f) e a =
    let b = bind_ok (fault_def d.scenario f) _ z e in
    subst (λ (g : Progress). AreTargeted g.scenario) (ok_is _ z b.2) a
targeted_added d z end_line e a = subst (λ (g : Progress). AreTargeted g.scenario) (ok_is d z e) a

-- ---- all lines

targeted_after : (d z : Progress) (x : Said) → said_after d x ≡ Ok z → AreTargeted d.scenario → AreTargeted z.scenario
unfolding said_after
targeted_after d z x e a =
    let v = bind_ok (guard 2 (fits_version d.scenario.version x)) _ z e in
    let o = bind_ok (guard 3 (in_order (rank d.last) (rank (kind_of x)))) _ z v.2 in
    let b = bind_ok (added d x) _ z o.2 in
    subst (λ (g : Progress). AreTargeted g.scenario) (ok_is _ z b.2) (targeted_added d b.0 x b.1 a)

targeted_built : (d z : Progress) (xs : List Said) → built d xs ≡ Ok z → AreTargeted d.scenario → AreTargeted z.scenario
targeted_built d z [] e a = subst (λ (g : Progress). AreTargeted g.scenario) (ok_is d z e) a
targeted_built d z (x ∷ xs) e a =
    let b = bind_ok (said_after d x) _ z e in
    targeted_built b.0 z xs b.2 (targeted_after d b.0 x b.1 a)

pub are_targeted : (s : ScenarioValue) → Obeys s → AreTargeted s
are_targeted s o =
    let b = bind_ok (built nothing (saids s)) _ s o.lawful in
    subst AreTargeted (ok_is b.0.scenario s b.2) (targeted_built nothing b.0 (saids s) b.1 (tt, tt))

pub units_targeted : (s : ScenarioValue) → Obeys s
    → AllByRecursion (λ (u : UnitDef). has_target s u.target ≡ true) (units_of s)
units_targeted s o = each_unit (λ (u : UnitDef). has_target s u.target ≡ true) s (are_targeted s o).0
    (mapped s.tapes (are_targeted s o).1)
  where
    mapped : (tapes : List TapeDef) → AllByRecursion (λ (t : TapeDef). has_target s t.target ≡ true) tapes
        → AllByRecursion (λ (u : UnitDef). has_target s u.target ≡ true) (map tape_unit tapes)
    mapped [] a = tt
    mapped (t ∷ tapes) a = (a.0, mapped tapes a.1)

-- ---- of the unit that is found

found_targeted : (s : ScenarioValue) (units : List UnitDef) (t m : ℕ) (u : UnitDef)
    → AllByRecursion (λ (v : UnitDef). has_target s v.target ≡ true) units
    → find (λ (v : UnitDef). v.target == t && v.unit == m) units ≡ Some u → has_target s t ≡ true
found_targeted s [] t m u a e = none_some u e
found_targeted s (v ∷ units) t m u a e =
    go (v.target == t && v.unit == m) refl e (λ z. found_targeted s units t m u a.1 z)
  where
    go : (q : Bool) → (v.target == t && v.unit == m) ≡ q
        → cond q (Some v) (find (λ (w : UnitDef). w.target == t && w.unit == m) units) ≡ Some u
        → (find (λ (w : UnitDef). w.target == t && w.unit == m) units ≡ Some u → has_target s t ≡ true)
        → has_target s t ≡ true
    go true f z rest = ap (has_target s) (sym (eqb-true v.target t (and_first (v.target == t) (v.unit == m) f))) ∙ a.0
    go false f z rest = rest z

pub unit_targeted : (s : ScenarioValue) (t m : ℕ) (u : UnitDef) → Obeys s → unit_of s t m ≡ Some u
    → has_target s t ≡ true
unit_targeted s t m u o e = found_targeted s (units_of s) t m u (units_targeted s o) e
