-- What is read obeys the rules, and its text is no longer than what was read.
use Rattle.std.proofs.Common.{◌≡◌, ℕ, ◌+◌, ◌<◌, ◌≤◌, Bool, true, false, cond, ◌&&◌, ltb, List, [], ◌∷◌, ◌++◌, length}
use Rattle.std.proofs.Common.{map, Option, Some, None, Result, Ok, Err, refl, sym, ap, subst, ◌∙◌, arith, append_assoc}
use Rattle.std.proofs.Common.{length-append}
use Rattle.std.specs.Prelude.{nat_lt, nat_le, ◌==◌, IfOk}
use Rattle.std.specs.List.{flat_map, list_all, sum_by, AllByRecursion}
use Rattle.std.proofs.lemmas.List.Sums.{sum_by-append}
use Rattle.std.proofs.lemmas.Bool.{ltb-false}
use Rattle.std.proofs.lemmas.Bool.Decides.{nat_tests}
use Rattle.std.proofs.lemmas.List.{map-append, append-nil}
use Rattle.std.proofs.lemmas.Grind.{flat_map-append}
use Rattle.text_words.specs.Lines.{Line, lines_of, onto}
use Rattle.scenario.specs.declared.bounds.TheConstants.{LIMIT, NEED_LIMIT, NEEDS_LIMIT}
use Rattle.scenario.specs.declared.value.HostDef.{HostDef}
use Rattle.scenario.specs.declared.value.TargetDef.{TargetDef}
use Rattle.scenario.specs.declared.value.UnitDef.{UnitDef}
use Rattle.scenario.specs.declared.value.FillDef.{FillDef}
use Rattle.scenario.specs.declared.value.TapeDef.{TapeDef}
use Rattle.scenario.specs.declared.value.Load.{Load}
use Rattle.scenario.specs.declared.value.Load.TheVariants as loads
use Rattle.scenario.specs.declared.value.LoadDef.{LoadDef}
use Rattle.scenario.specs.declared.value.CmdDef.{CmdDef}
use Rattle.scenario.specs.declared.value.AbortDef.{AbortDef}
use Rattle.scenario.specs.declared.value.ResetDef.{ResetDef}
use Rattle.scenario.specs.declared.value.FaultDef.{FaultDef}
use Rattle.scenario.specs.declared.value.Payload.{Payload}
use Rattle.scenario.specs.declared.value.Payload.TheVariants as payloads
use Rattle.scenario.specs.declared.kind.Kind.{Kind}
use Rattle.scenario.specs.declared.kind.Kind.TheVariants as kinds
use Rattle.scenario.specs.declared.fault.Bad.{Bad}
use Rattle.scenario.specs.Value.{ScenarioValue, nothing_said}
use Rattle.scenario.specs.Needs.{need_of, sent_of}
use Rattle.scenario.specs.Forms.{Said, scsi_line, initiator_line, target_line, unit_line, fill_line, tape_line}
use Rattle.scenario.specs.Forms.{load_line, cmd_line}
use Rattle.scenario.specs.Forms.{abort_line, reset_line, fault_line, end_line, form_of}
use Rattle.scenario.specs.Reading.{Progress, ◌>>=◌, guard, host_def, target_def, unit_def, fill_def, tape_def}
use Rattle.scenario.specs.Reading.{load_def, cmd_def}
use Rattle.scenario.specs.Reading.{is_payload, has_room, full_cmd_def, abort_def, reset_def, fault_def, with_scenario}
use Rattle.scenario.specs.Reading.{added, said_after, fits_version, line_after, formed, is_printable, is_skipped}
use Rattle.scenario.specs.Reading.{in_order, rank, kind_of, nothing, scenario_of, read_from, and_then, is_end, Answers}
use Rattle.scenario.specs.Writing.{saids, body_of, events_of, text_of, built, told_scenario, Obeys, IsHex}
use Rattle.scenario.specs.Writing.{IsHexLoad, IsHexPayload, said_tape, said_object, said_load}
use Rattle.scenario.specs.Writing.{said_payload, said_host, said_target, said_unit, said_fill, said_cmd, said_abort}
use Rattle.scenario.specs.Writing.{said_reset, said_fault, said_line, said_text}
use Rattle.scenario.proofs.PartsAgain.{IsSpelledObject, IsSpelledPayload}
use Rattle.scenario.proofs.FormsAgain.{IsVersion}
use Rattle.scenario.proofs.Steps.{bind_ok, ok_is, guard_ok}
use Rattle.scenario.proofs.Declared.{host_declared, target_declared, unit_declared, fill_declared, full_cmd_declared}
use Rattle.scenario.proofs.Declared.{tape_declared, load_declared, abort_declared, reset_declared, fault_declared}
use Rattle.scenario.proofs.Lawful.{CanSay, taken, spelled_after, append_all, read_back}
use Rattle.scenario.proofs.Only.{form_only}
use Rattle.bus_base.proofs.Tests.{all_with}

-- The lines that were read, by the kind of the last one.
abbrev saids_at : Kind → ScenarioValue → List Said
saids_at kinds.Nothing s = []
saids_at kinds.Scsi s = scsi_line s.version ∷ body_of s
saids_at kinds.Initiator s = scsi_line s.version ∷ body_of s
saids_at kinds.Target s = scsi_line s.version ∷ body_of s
saids_at kinds.Unit s = scsi_line s.version ∷ body_of s
saids_at kinds.Fill s = scsi_line s.version ∷ body_of s
saids_at kinds.Tape s = scsi_line s.version ∷ body_of s
saids_at kinds.Load s = scsi_line s.version ∷ body_of s
saids_at kinds.Cmd s = scsi_line s.version ∷ body_of s
saids_at kinds.Abort s = scsi_line s.version ∷ body_of s
saids_at kinds.Reset s = scsi_line s.version ∷ body_of s
saids_at kinds.Fault s = scsi_line s.version ∷ body_of s
saids_at kinds.End s = saids s

-- What stands later than kinds of this rank is empty.
pub record AreEmpty (r : ℕ) (s : ScenarioValue) : Type 0 where
  hosts : r < 2 → s.hosts ≡ []
  targets : r < 3 → s.targets ≡ []
  units : r < 4 → s.units ≡ []
  fills : r < 5 → s.fills ≡ []
  tapes : r < 6 → s.tapes ≡ []
  loads : r < 7 → s.loads ≡ []
  commands : r < 8 → s.commands ≡ []
  aborts : r < 9 → s.aborts ≡ []
  resets : r < 10 → s.resets ≡ []
  faults : r < 11 → s.faults ≡ []

-- The commands need what was counted, each and all within the limits.
pub record HasNeeds (d : Progress) : Type 0 where
  each : AllByRecursion (λ c. need_of d.scenario c ≤ NEED_LIMIT) d.scenario.commands
  total : d.needs ≡ sum_by (need_of d.scenario) d.scenario.commands
  bound : d.needs ≤ NEEDS_LIMIT

pub record IsLawful (d : Progress) : Type 0 where
  needs : HasNeeds d
  so_far : built nothing (saids_at d.last d.scenario) ≡ Ok d
  can : AllByRecursion CanSay (saids_at d.last d.scenario)
  empties : AreEmpty (rank d.last) d.scenario
  start : rank d.last ≡ 0 → d.scenario ≡ nothing_said
  version : 0 < rank d.last → IsVersion d.scenario.version

-- Between the first line and the last.
middle : (k : Kind) (s : ScenarioValue) (r : ℕ) → 1 < r → in_order (rank k) r ≡ true
    → saids_at k s ≡ scsi_line s.version ∷ body_of s
middle kinds.Nothing s r lt o = absurd (grind (arith, nat_tests))
middle kinds.Scsi s r lt o = refl
middle kinds.Initiator s r lt o = refl
middle kinds.Target s r lt o = refl
middle kinds.Unit s r lt o = refl
middle kinds.Fill s r lt o = refl
middle kinds.Tape s r lt o = refl
middle kinds.Load s r lt o = refl
middle kinds.Cmd s r lt o = refl
middle kinds.Abort s r lt o = refl
middle kinds.Reset s r lt o = refl
middle kinds.Fault s r lt o = refl
middle kinds.End s r lt o = absurd (grind (arith, nat_tests))

-- The first line stands where nothing was read.
first : (k : Kind) (s : ScenarioValue) → in_order (rank k) 1 ≡ true → (rank k ≡ 0) × (saids_at k s ≡ [])
first kinds.Nothing s o = (refl, refl)
first kinds.Scsi s o = absurd cc
first kinds.Initiator s o = absurd cc
first kinds.Target s o = absurd cc
first kinds.Unit s o = absurd cc
first kinds.Fill s o = absurd cc
first kinds.Tape s o = absurd cc
first kinds.Load s o = absurd cc
first kinds.Cmd s o = absurd cc
first kinds.Abort s o = absurd cc
first kinds.Reset s o = absurd cc
first kinds.Fault s o = absurd cc
first kinds.End s o = absurd cc

rises : (last next : ℕ) → 1 < next → in_order last next ≡ true → (0 < last) × (last ≤ next)
rises last next lt o = go (last == 0) refl o where
  go : (q : Bool) → (last == 0) ≡ q → cond q (next == 1) ((nat_lt 1 next && nat_le last next) && nat_lt last 12) ≡ true
      → (0 < last) × (last ≤ next)
  go true e h = absurd (grind (arith, nat_tests))
  go false e h = (grind (arith, nat_tests), grind (arith, nat_tests))

abbrev body : ℕ → List HostDef → List TargetDef → List UnitDef → List FillDef → List TapeDef → List LoadDef
    → List CmdDef → List AbortDef → List ResetDef → List FaultDef → List Said
body v hs ts us fs ps ls cs bs rs xs = map (said_host v) hs
    ++ (map (said_target v) ts ++ (map said_unit us ++ (map said_fill fs ++ (map said_tape ps
    ++ (map said_load ls ++ (map said_cmd cs ++ (map said_abort bs ++ (map said_reset rs ++ (map said_fault xs)))))))))

hosts_end :
    (v : ℕ) (hs : List HostDef) (ts : List TargetDef) (us : List UnitDef) (fs : List FillDef) (ps : List TapeDef)
    (ls : List LoadDef) (cs : List CmdDef) (bs : List AbortDef) (rs : List ResetDef) (xs : List FaultDef) (d : HostDef)
    → ts ≡ [] → us ≡ [] → fs ≡ [] → ps ≡ [] → ls ≡ [] → cs ≡ [] → bs ≡ [] → rs ≡ [] → xs ≡ []
    → body v (hs ++ d ∷ []) ts us fs ps ls cs bs rs xs ≡ body v hs ts us fs ps ls cs bs rs xs ++ said_host v d ∷ []
hosts_end v hs ts us fs ps ls cs bs rs xs d ets eus efs eps els ecs ebs ers exs =
    rw (ets, eus, efs, eps, els, ecs, ebs, ers, exs) (simp (map-append, append-nil))

targets_end : (v : ℕ) (hs : List HostDef) (ts : List TargetDef) (us : List UnitDef) (fs : List FillDef)
    (ps : List TapeDef) (ls : List LoadDef) (cs : List CmdDef) (bs : List AbortDef) (rs : List ResetDef)
    (xs : List FaultDef) (d : TargetDef) → us ≡ [] → fs ≡ [] → ps ≡ [] → ls ≡ [] → cs ≡ [] → bs ≡ [] → rs ≡ [] → xs ≡ []
    → body v hs (ts ++ d ∷ []) us fs ps ls cs bs rs xs ≡ body v hs ts us fs ps ls cs bs rs xs ++ said_target v d ∷ []
targets_end v hs ts us fs ps ls cs bs rs xs d eus efs eps els ecs ebs ers exs =
    rw (eus, efs, eps, els, ecs, ebs, ers, exs) (simp (map-append, append-nil, append_assoc))

units_end :
    (v : ℕ) (hs : List HostDef) (ts : List TargetDef) (us : List UnitDef) (fs : List FillDef) (ps : List TapeDef)
    (ls : List LoadDef) (cs : List CmdDef) (bs : List AbortDef) (rs : List ResetDef) (xs : List FaultDef) (d : UnitDef)
    → fs ≡ [] → ps ≡ [] → ls ≡ [] → cs ≡ [] → bs ≡ [] → rs ≡ [] → xs ≡ []
    → body v hs ts (us ++ d ∷ []) fs ps ls cs bs rs xs ≡ body v hs ts us fs ps ls cs bs rs xs ++ said_unit d ∷ []
units_end v hs ts us fs ps ls cs bs rs xs d efs eps els ecs ebs ers exs =
    rw (efs, eps, els, ecs, ebs, ers, exs) (simp (map-append, append-nil, append_assoc))

fills_end :
    (v : ℕ) (hs : List HostDef) (ts : List TargetDef) (us : List UnitDef) (fs : List FillDef) (ps : List TapeDef)
    (ls : List LoadDef) (cs : List CmdDef) (bs : List AbortDef) (rs : List ResetDef) (xs : List FaultDef) (d : FillDef)
    → ps ≡ [] → ls ≡ [] → cs ≡ [] → bs ≡ [] → rs ≡ [] → xs ≡ []
    → body v hs ts us (fs ++ d ∷ []) ps ls cs bs rs xs ≡ body v hs ts us fs ps ls cs bs rs xs ++ said_fill d ∷ []
fills_end v hs ts us fs ps ls cs bs rs xs d eps els ecs ebs ers exs =
    rw (eps, els, ecs, ebs, ers, exs) (simp (map-append, append-nil, append_assoc))

tapes_end :
    (v : ℕ) (hs : List HostDef) (ts : List TargetDef) (us : List UnitDef) (fs : List FillDef) (ps : List TapeDef)
    (ls : List LoadDef) (cs : List CmdDef) (bs : List AbortDef) (rs : List ResetDef) (xs : List FaultDef) (d : TapeDef)
    → ls ≡ [] → cs ≡ [] → bs ≡ [] → rs ≡ [] → xs ≡ []
    → body v hs ts us fs (ps ++ d ∷ []) ls cs bs rs xs ≡ body v hs ts us fs ps ls cs bs rs xs ++ said_tape d ∷ []
tapes_end v hs ts us fs ps ls cs bs rs xs d els ecs ebs ers exs =
    rw (els, ecs, ebs, ers, exs) (simp (map-append, append-nil, append_assoc))

loads_end :
    (v : ℕ) (hs : List HostDef) (ts : List TargetDef) (us : List UnitDef) (fs : List FillDef) (ps : List TapeDef)
    (ls : List LoadDef) (cs : List CmdDef) (bs : List AbortDef) (rs : List ResetDef) (xs : List FaultDef) (d : LoadDef)
    → cs ≡ [] → bs ≡ [] → rs ≡ [] → xs ≡ []
    → body v hs ts us fs ps (ls ++ d ∷ []) cs bs rs xs ≡ body v hs ts us fs ps ls cs bs rs xs ++ said_load d ∷ []
loads_end v hs ts us fs ps ls cs bs rs xs d ecs ebs ers exs =
    rw (ecs, ebs, ers, exs) (simp (map-append, append-nil, append_assoc))

commands_end :
    (v : ℕ) (hs : List HostDef) (ts : List TargetDef) (us : List UnitDef) (fs : List FillDef) (ps : List TapeDef)
    (ls : List LoadDef) (cs : List CmdDef) (bs : List AbortDef) (rs : List ResetDef) (xs : List FaultDef) (d : CmdDef)
    → bs ≡ [] → rs ≡ [] → xs ≡ []
    → body v hs ts us fs ps ls (cs ++ d ∷ []) bs rs xs ≡ body v hs ts us fs ps ls cs bs rs xs ++ said_cmd d ∷ []
commands_end v hs ts us fs ps ls cs bs rs xs d ebs ers exs =
    rw (ebs, ers, exs) (simp (map-append, append-nil, append_assoc))

aborts_end :
    (v : ℕ) (hs : List HostDef) (ts : List TargetDef) (us : List UnitDef) (fs : List FillDef) (ps : List TapeDef)
    (ls : List LoadDef) (cs : List CmdDef) (bs : List AbortDef) (rs : List ResetDef) (xs : List FaultDef) (d : AbortDef)
    → rs ≡ [] → xs ≡ []
    → body v hs ts us fs ps ls cs (bs ++ d ∷ []) rs xs ≡ body v hs ts us fs ps ls cs bs rs xs ++ said_abort d ∷ []
aborts_end v hs ts us fs ps ls cs bs rs xs d ers exs = rw (ers, exs) (simp (map-append, append-nil, append_assoc))

resets_end :
    (v : ℕ) (hs : List HostDef) (ts : List TargetDef) (us : List UnitDef) (fs : List FillDef) (ps : List TapeDef)
    (ls : List LoadDef) (cs : List CmdDef) (bs : List AbortDef) (rs : List ResetDef) (xs : List FaultDef) (d : ResetDef)
    → xs ≡ []
    → body v hs ts us fs ps ls cs bs (rs ++ d ∷ []) xs ≡ body v hs ts us fs ps ls cs bs rs xs ++ said_reset d ∷ []
resets_end v hs ts us fs ps ls cs bs rs xs d exs = rw exs (simp (map-append, append-nil, append_assoc))

faults_end :
    (v : ℕ) (hs : List HostDef) (ts : List TargetDef) (us : List UnitDef) (fs : List FillDef) (ps : List TapeDef)
    (ls : List LoadDef) (cs : List CmdDef) (bs : List AbortDef) (rs : List ResetDef) (xs : List FaultDef) (d : FaultDef)
    → body v hs ts us fs ps ls cs bs rs (xs ++ d ∷ []) ≡ body v hs ts us fs ps ls cs bs rs xs ++ said_fault d ∷ []
faults_end v hs ts us fs ps ls cs bs rs xs d = (simp (map-append, append_assoc))

-- A line more: what the lines say then, and what is still empty.
record IsNext (k : Kind) (s t : ScenarioValue) (x : Said) : Type 0 where
  same : saids_at (kind_of x) t ≡ saids_at k s ++ x ∷ []
  empties : AreEmpty (rank (kind_of x)) t
  version : 0 < rank (kind_of x) → IsVersion t.version

text_end : (s : ScenarioValue) → saids s ≡ (scsi_line s.version ∷ body_of s) ++ end_line ∷ []
text_end s = refl

next_initiator : (k : Kind) (s : ScenarioValue) (x : Said) (def : HostDef) → kind_of x ≡ kinds.Initiator
    → AreEmpty (rank k) s → (0 < rank k → IsVersion s.version) → in_order (rank k) 2 ≡ true
    → said_host s.version def ≡ x → IsNext k s (record s { hosts = s.hosts ++ def ∷ [] }) x
next_initiator k s x def kind m version order is =
    let up = rises (rank k) 2 (omega arith) order in
    let low = up.0 in
    let le = up.1 in
    let key = middle k s 2 (omega arith) order in
    let added : body_of (record s { hosts = s.hosts ++ def ∷ [] }) ≡ body_of s ++ said_host s.version def ∷ [] =
    hosts_end s.version s.hosts s.targets s.units s.fills s.tapes s.loads s.commands s.aborts s.resets s.faults def
    (m.targets (omega arith)) (m.units (omega arith)) (m.fills (omega arith))
    (m.tapes (omega arith)) (m.loads (omega arith)) (m.commands (omega arith))
    (m.aborts (omega arith)) (m.resets (omega arith)) (m.faults (omega arith)) in
    record {
      same = ap (λ (n : Kind). saids_at n (record s { hosts = s.hosts ++ def ∷ [] })) kind
          ∙ (ap (λ (ys : List Said). scsi_line s.version ∷ ys) added ∙ (λ i. sym key i ++ is i ∷ []));
      empties = subst (λ (n : Kind). AreEmpty (rank n) (record s { hosts = s.hosts ++ def ∷ [] })) (sym kind) (record {
        hosts = λ h. absurd (omega arith);
        targets = λ h. m.targets (omega arith);
        units = λ h. m.units (omega arith);
        fills = λ h. m.fills (omega arith);
        tapes = λ h. m.tapes (omega arith);
        loads = λ h. m.loads (omega arith);
        commands = λ h. m.commands (omega arith);
        aborts = λ h. m.aborts (omega arith);
        resets = λ h. m.resets (omega arith);
        faults = λ h. m.faults (omega arith);
      });
      version = λ h. version low;
    }

next_target : (k : Kind) (s : ScenarioValue) (x : Said) (def : TargetDef) → kind_of x ≡ kinds.Target
    → AreEmpty (rank k) s → (0 < rank k → IsVersion s.version) → in_order (rank k) 3 ≡ true
    → said_target s.version def ≡ x → IsNext k s (record s { targets = s.targets ++ def ∷ [] }) x
next_target k s x def kind m version order is =
    let up = rises (rank k) 3 (omega arith) order in
    let low = up.0 in
    let le = up.1 in
    let key = middle k s 3 (omega arith) order in
    let added : body_of (record s { targets = s.targets ++ def ∷ [] }) ≡ body_of s ++ said_target s.version def ∷ [] =
    targets_end s.version s.hosts s.targets s.units s.fills s.tapes s.loads s.commands s.aborts s.resets s.faults def
    (m.units (omega arith)) (m.fills (omega arith)) (m.tapes (omega arith)) (m.loads (omega arith))
    (m.commands (omega arith)) (m.aborts (omega arith)) (m.resets (omega arith)) (m.faults (omega arith)) in
    record {
      same = ap (λ (n : Kind). saids_at n (record s { targets = s.targets ++ def ∷ [] })) kind
          ∙ (ap (λ (ys : List Said). scsi_line s.version ∷ ys) added ∙ (λ i. sym key i ++ is i ∷ []));
      empties =
          subst (λ (n : Kind). AreEmpty (rank n) (record s { targets = s.targets ++ def ∷ [] })) (sym kind) (record {
            hosts = λ h. absurd (omega arith);
            targets = λ h. absurd (omega arith);
            units = λ h. m.units (omega arith);
            fills = λ h. m.fills (omega arith);
            tapes = λ h. m.tapes (omega arith);
            loads = λ h. m.loads (omega arith);
            commands = λ h. m.commands (omega arith);
            aborts = λ h. m.aborts (omega arith);
            resets = λ h. m.resets (omega arith);
            faults = λ h. m.faults (omega arith);
          });
      version = λ h. version low;
    }

next_unit : (k : Kind) (s : ScenarioValue) (x : Said) (def : UnitDef) → kind_of x ≡ kinds.Unit
    → AreEmpty (rank k) s → (0 < rank k → IsVersion s.version) → in_order (rank k) 4 ≡ true → said_unit def ≡ x
    → IsNext k s (record s { units = s.units ++ def ∷ [] }) x
next_unit k s x def kind m version order is =
    let up = rises (rank k) 4 (omega arith) order in
    let low = up.0 in
    let le = up.1 in
    let key = middle k s 4 (omega arith) order in
    let added : body_of (record s { units = s.units ++ def ∷ [] }) ≡ body_of s ++ said_unit def ∷ [] = units_end
    s.version s.hosts s.targets s.units s.fills s.tapes s.loads s.commands s.aborts s.resets s.faults def
    (m.fills (omega arith)) (m.tapes (omega arith)) (m.loads (omega arith)) (m.commands (omega arith))
    (m.aborts (omega arith)) (m.resets (omega arith)) (m.faults (omega arith)) in
    record {
      same = ap (λ (n : Kind). saids_at n (record s { units = s.units ++ def ∷ [] })) kind
          ∙ (ap (λ (ys : List Said). scsi_line s.version ∷ ys) added ∙ (λ i. sym key i ++ is i ∷ []));
      empties = subst (λ (n : Kind). AreEmpty (rank n) (record s { units = s.units ++ def ∷ [] })) (sym kind) (record {
        hosts = λ h. absurd (omega arith);
        targets = λ h. absurd (omega arith);
        units = λ h. absurd (omega arith);
        fills = λ h. m.fills (omega arith);
        tapes = λ h. m.tapes (omega arith);
        loads = λ h. m.loads (omega arith);
        commands = λ h. m.commands (omega arith);
        aborts = λ h. m.aborts (omega arith);
        resets = λ h. m.resets (omega arith);
        faults = λ h. m.faults (omega arith);
      });
      version = λ h. version low;
    }

next_fill : (k : Kind) (s : ScenarioValue) (x : Said) (def : FillDef) → kind_of x ≡ kinds.Fill
    → AreEmpty (rank k) s → (0 < rank k → IsVersion s.version) → in_order (rank k) 5 ≡ true → said_fill def ≡ x
    → IsNext k s (record s { fills = s.fills ++ def ∷ [] }) x
next_fill k s x def kind m version order is =
    let up = rises (rank k) 5 (omega arith) order in
    let low = up.0 in
    let le = up.1 in
    let key = middle k s 5 (omega arith) order in
    let added : body_of (record s { fills = s.fills ++ def ∷ [] }) ≡ body_of s ++ said_fill def ∷ [] = fills_end
    s.version s.hosts s.targets s.units s.fills s.tapes s.loads s.commands s.aborts s.resets s.faults def
    (m.tapes (omega arith)) (m.loads (omega arith)) (m.commands (omega arith))
    (m.aborts (omega arith)) (m.resets (omega arith)) (m.faults (omega arith)) in
    record {
      same = ap (λ (n : Kind). saids_at n (record s { fills = s.fills ++ def ∷ [] })) kind
          ∙ (ap (λ (ys : List Said). scsi_line s.version ∷ ys) added ∙ (λ i. sym key i ++ is i ∷ []));
      empties = subst (λ (n : Kind). AreEmpty (rank n) (record s { fills = s.fills ++ def ∷ [] })) (sym kind) (record {
        hosts = λ h. absurd (omega arith);
        targets = λ h. absurd (omega arith);
        units = λ h. absurd (omega arith);
        fills = λ h. absurd (omega arith);
        tapes = λ h. m.tapes (omega arith);
        loads = λ h. m.loads (omega arith);
        commands = λ h. m.commands (omega arith);
        aborts = λ h. m.aborts (omega arith);
        resets = λ h. m.resets (omega arith);
        faults = λ h. m.faults (omega arith);
      });
      version = λ h. version low;
    }

next_tape : (k : Kind) (s : ScenarioValue) (x : Said) (def : TapeDef) → kind_of x ≡ kinds.Tape
    → AreEmpty (rank k) s → (0 < rank k → IsVersion s.version) → in_order (rank k) 6 ≡ true → said_tape def ≡ x
    → IsNext k s (record s { tapes = s.tapes ++ def ∷ [] }) x
next_tape k s x def kind m version order is =
    let up = rises (rank k) 6 (omega arith) order in
    let low = up.0 in
    let le = up.1 in
    let key = middle k s 6 (omega arith) order in
    let added : body_of (record s { tapes = s.tapes ++ def ∷ [] }) ≡ body_of s ++ said_tape def ∷ [] = tapes_end
    s.version s.hosts s.targets s.units s.fills s.tapes s.loads s.commands s.aborts s.resets s.faults def
    (m.loads (omega arith)) (m.commands (omega arith)) (m.aborts (omega arith))
    (m.resets (omega arith)) (m.faults (omega arith)) in
    record {
      same = ap (λ (n : Kind). saids_at n (record s { tapes = s.tapes ++ def ∷ [] })) kind
          ∙ (ap (λ (ys : List Said). scsi_line s.version ∷ ys) added ∙ (λ i. sym key i ++ is i ∷ []));
      empties = subst (λ (n : Kind). AreEmpty (rank n) (record s { tapes = s.tapes ++ def ∷ [] })) (sym kind) (record {
        hosts = λ h. absurd (omega arith);
        targets = λ h. absurd (omega arith);
        units = λ h. absurd (omega arith);
        fills = λ h. absurd (omega arith);
        tapes = λ h. absurd (omega arith);
        loads = λ h. m.loads (omega arith);
        commands = λ h. m.commands (omega arith);
        aborts = λ h. m.aborts (omega arith);
        resets = λ h. m.resets (omega arith);
        faults = λ h. m.faults (omega arith);
      });
      version = λ h. version low;
    }

next_load : (k : Kind) (s : ScenarioValue) (x : Said) (def : LoadDef) → kind_of x ≡ kinds.Load
    → AreEmpty (rank k) s → (0 < rank k → IsVersion s.version) → in_order (rank k) 7 ≡ true → said_load def ≡ x
    → IsNext k s (record s { loads = s.loads ++ def ∷ [] }) x
next_load k s x def kind m version order is =
    let up = rises (rank k) 7 (omega arith) order in
    let low = up.0 in
    let le = up.1 in
    let key = middle k s 7 (omega arith) order in
    let added : body_of (record s { loads = s.loads ++ def ∷ [] }) ≡ body_of s ++ said_load def ∷ [] = loads_end
    s.version s.hosts s.targets s.units s.fills s.tapes s.loads s.commands s.aborts s.resets s.faults def
    (m.commands (omega arith)) (m.aborts (omega arith)) (m.resets (omega arith)) (m.faults (omega arith)) in
    record {
      same = ap (λ (n : Kind). saids_at n (record s { loads = s.loads ++ def ∷ [] })) kind
          ∙ (ap (λ (ys : List Said). scsi_line s.version ∷ ys) added ∙ (λ i. sym key i ++ is i ∷ []));
      empties = subst (λ (n : Kind). AreEmpty (rank n) (record s { loads = s.loads ++ def ∷ [] })) (sym kind) (record {
        hosts = λ h. absurd (omega arith);
        targets = λ h. absurd (omega arith);
        units = λ h. absurd (omega arith);
        fills = λ h. absurd (omega arith);
        tapes = λ h. absurd (omega arith);
        loads = λ h. absurd (omega arith);
        commands = λ h. m.commands (omega arith);
        aborts = λ h. m.aborts (omega arith);
        resets = λ h. m.resets (omega arith);
        faults = λ h. m.faults (omega arith);
      });
      version = λ h. version low;
    }

next_cmd : (k : Kind) (s : ScenarioValue) (x : Said) (def : CmdDef) → kind_of x ≡ kinds.Cmd
    → AreEmpty (rank k) s → (0 < rank k → IsVersion s.version) → in_order (rank k) 8 ≡ true → said_cmd def ≡ x
    → IsNext k s (record s { commands = s.commands ++ def ∷ [] }) x
next_cmd k s x def kind m version order is =
    let up = rises (rank k) 8 (omega arith) order in
    let low = up.0 in
    let le = up.1 in
    let key = middle k s 8 (omega arith) order in
    let added : body_of (record s { commands = s.commands ++ def ∷ [] }) ≡ body_of s ++ said_cmd def ∷ [] = commands_end
    s.version s.hosts s.targets s.units s.fills s.tapes s.loads s.commands s.aborts s.resets s.faults def
    (m.aborts (omega arith)) (m.resets (omega arith)) (m.faults (omega arith)) in
    record {
      same = ap (λ (n : Kind). saids_at n (record s { commands = s.commands ++ def ∷ [] })) kind
          ∙ (ap (λ (ys : List Said). scsi_line s.version ∷ ys) added ∙ (λ i. sym key i ++ is i ∷ []));
      empties =
          subst (λ (n : Kind). AreEmpty (rank n) (record s { commands = s.commands ++ def ∷ [] })) (sym kind) (record {
            hosts = λ h. absurd (omega arith);
            targets = λ h. absurd (omega arith);
            units = λ h. absurd (omega arith);
            fills = λ h. absurd (omega arith);
            tapes = λ h. absurd (omega arith);
            loads = λ h. absurd (omega arith);
            commands = λ h. absurd (omega arith);
            aborts = λ h. m.aborts (omega arith);
            resets = λ h. m.resets (omega arith);
            faults = λ h. m.faults (omega arith);
          });
      version = λ h. version low;
    }

next_abort : (k : Kind) (s : ScenarioValue) (x : Said) (def : AbortDef) → kind_of x ≡ kinds.Abort
    → AreEmpty (rank k) s → (0 < rank k → IsVersion s.version) → in_order (rank k) 9 ≡ true → said_abort def ≡ x
    → IsNext k s (record s { aborts = s.aborts ++ def ∷ [] }) x
next_abort k s x def kind m version order is =
    let up = rises (rank k) 9 (omega arith) order in
    let low = up.0 in
    let le = up.1 in
    let key = middle k s 9 (omega arith) order in
    let added : body_of (record s { aborts = s.aborts ++ def ∷ [] }) ≡ body_of s ++ said_abort def ∷ [] = aborts_end
    s.version s.hosts s.targets s.units s.fills s.tapes s.loads s.commands s.aborts s.resets s.faults def
    (m.resets (omega arith)) (m.faults (omega arith)) in
    record {
      same = ap (λ (n : Kind). saids_at n (record s { aborts = s.aborts ++ def ∷ [] })) kind
          ∙ (ap (λ (ys : List Said). scsi_line s.version ∷ ys) added ∙ (λ i. sym key i ++ is i ∷ []));
      empties =
          subst (λ (n : Kind). AreEmpty (rank n) (record s { aborts = s.aborts ++ def ∷ [] })) (sym kind) (record {
            hosts = λ h. absurd (omega arith);
            targets = λ h. absurd (omega arith);
            units = λ h. absurd (omega arith);
            fills = λ h. absurd (omega arith);
            tapes = λ h. absurd (omega arith);
            loads = λ h. absurd (omega arith);
            commands = λ h. absurd (omega arith);
            aborts = λ h. absurd (omega arith);
            resets = λ h. m.resets (omega arith);
            faults = λ h. m.faults (omega arith);
          });
      version = λ h. version low;
    }

next_reset : (k : Kind) (s : ScenarioValue) (x : Said) (def : ResetDef) → kind_of x ≡ kinds.Reset
    → AreEmpty (rank k) s → (0 < rank k → IsVersion s.version) → in_order (rank k) 10 ≡ true → said_reset def ≡ x
    → IsNext k s (record s { resets = s.resets ++ def ∷ [] }) x
next_reset k s x def kind m version order is =
    let up = rises (rank k) 10 (omega arith) order in
    let low = up.0 in
    let le = up.1 in
    let key = middle k s 10 (omega arith) order in
    let added : body_of (record s { resets = s.resets ++ def ∷ [] }) ≡ body_of s ++ said_reset def ∷ [] = resets_end
    s.version s.hosts s.targets s.units s.fills s.tapes s.loads s.commands s.aborts s.resets s.faults def
    (m.faults (omega arith)) in
    record {
      same = ap (λ (n : Kind). saids_at n (record s { resets = s.resets ++ def ∷ [] })) kind
          ∙ (ap (λ (ys : List Said). scsi_line s.version ∷ ys) added ∙ (λ i. sym key i ++ is i ∷ []));
      empties =
          subst (λ (n : Kind). AreEmpty (rank n) (record s { resets = s.resets ++ def ∷ [] })) (sym kind) (record {
            hosts = λ h. absurd (omega arith);
            targets = λ h. absurd (omega arith);
            units = λ h. absurd (omega arith);
            fills = λ h. absurd (omega arith);
            tapes = λ h. absurd (omega arith);
            loads = λ h. absurd (omega arith);
            commands = λ h. absurd (omega arith);
            aborts = λ h. absurd (omega arith);
            resets = λ h. absurd (omega arith);
            faults = λ h. m.faults (omega arith);
          });
      version = λ h. version low;
    }

next_fault : (k : Kind) (s : ScenarioValue) (x : Said) (def : FaultDef) → kind_of x ≡ kinds.Fault
    → AreEmpty (rank k) s → (0 < rank k → IsVersion s.version) → in_order (rank k) 11 ≡ true → said_fault def ≡ x
    → IsNext k s (record s { faults = s.faults ++ def ∷ [] }) x
next_fault k s x def kind m version order is =
    let up = rises (rank k) 11 (omega arith) order in
    let low = up.0 in
    let le = up.1 in
    let key = middle k s 11 (omega arith) order in
    let added : body_of (record s { faults = s.faults ++ def ∷ [] }) ≡ body_of s ++ said_fault def ∷ [] = faults_end
    s.version s.hosts s.targets s.units s.fills s.tapes s.loads s.commands s.aborts s.resets s.faults def in
    record {
      same = ap (λ (n : Kind). saids_at n (record s { faults = s.faults ++ def ∷ [] })) kind
          ∙ (ap (λ (ys : List Said). scsi_line s.version ∷ ys) added ∙ (λ i. sym key i ++ is i ∷ []));
      empties =
          subst (λ (n : Kind). AreEmpty (rank n) (record s { faults = s.faults ++ def ∷ [] })) (sym kind) (record {
            hosts = λ h. absurd (omega arith);
            targets = λ h. absurd (omega arith);
            units = λ h. absurd (omega arith);
            fills = λ h. absurd (omega arith);
            tapes = λ h. absurd (omega arith);
            loads = λ h. absurd (omega arith);
            commands = λ h. absurd (omega arith);
            aborts = λ h. absurd (omega arith);
            resets = λ h. absurd (omega arith);
            faults = λ h. absurd (omega arith);
          });
      version = λ h. version low;
    }

next_added : (d f : Progress) (x : Said) → IsLawful d → fits_version d.scenario.version x ≡ true
    → in_order (rank d.last) (rank (kind_of x)) ≡ true → CanSay x → added d x ≡ Ok f
    → IsNext d.last d.scenario f.scenario x
unfolding added
next_added d f (scsi_line v) law fits order can e =
    let key = first d.last d.scenario order in
    let t-is : record nothing_said { version = v } ≡ f.scenario =
    ap (λ (s : ScenarioValue). record s { version = v }) (sym (law.start key.0))
    ∙ ap (λ (p : Progress). p.scenario) (ok_is _ f e) in
    subst (λ (t : ScenarioValue). IsNext d.last d.scenario t (scsi_line v)) t-is (record {
      same = sym (ap (λ (ys : List Said). ys ++ scsi_line v ∷ []) key.1);
      empties = record {
        hosts = λ h. refl;
        targets = λ h. refl;
        units = λ h. refl;
        fills = λ h. refl;
        tapes = λ h. refl;
        loads = λ h. refl;
        commands = λ h. refl;
        aborts = λ h. refl;
        resets = λ h. refl;
        faults = λ h. refl;
      };
      version = λ h. can;
    })
next_added d f (initiator_line x) law fits order can e =
    let a = bind_ok (host_def d.scenario x) _ f e in
    subst (λ (p : Progress). IsNext d.last d.scenario p.scenario (initiator_line x)) (ok_is _ f a.2)
    (next_initiator d.last d.scenario (initiator_line x) a.0 refl law.empties law.version order
    ((host_declared d.scenario d.scenario.version x a.0 fits a.1).same
    (law.version (rises (rank d.last) 2 (omega arith) order).0)))
next_added d f (target_line x) law fits order can e =
    let a = bind_ok (target_def d.scenario x) _ f e in
    subst (λ (p : Progress). IsNext d.last d.scenario p.scenario (target_line x)) (ok_is _ f a.2)
    (next_target d.last d.scenario (target_line x) a.0 refl law.empties law.version order
    ((target_declared d.scenario d.scenario.version x a.0 fits a.1).same
    (law.version (rises (rank d.last) 3 (omega arith) order).0)))
next_added d f (unit_line x) law fits order can e =
    let a = bind_ok (unit_def d.scenario x) _ f e in
    subst (λ (p : Progress). IsNext d.last d.scenario p.scenario (unit_line x)) (ok_is _ f a.2) (next_unit d.last
    d.scenario (unit_line x) a.0 refl law.empties law.version order (unit_declared d.scenario x a.0 a.1).same)
next_added d f (fill_line x) law fits order can e =
    let a = bind_ok (fill_def d.scenario x) _ f e in
    subst (λ (p : Progress). IsNext d.last d.scenario p.scenario (fill_line x)) (ok_is _ f a.2) (next_fill d.last
    d.scenario (fill_line x) a.0 refl law.empties law.version order (fill_declared d.scenario x a.0 can a.1).same)
next_added d f (tape_line x) law fits order can e =
    let a = bind_ok (tape_def d.scenario x) _ f e in
    subst (λ (p : Progress). IsNext d.last d.scenario p.scenario (tape_line x)) (ok_is _ f a.2) (next_tape d.last
    d.scenario (tape_line x) a.0 refl law.empties law.version order (tape_declared d.scenario x a.0 a.1).same)
next_added d f (load_line x) law fits order can e =
    let a = bind_ok (load_def d.scenario x) _ f e in
    subst (λ (p : Progress). IsNext d.last d.scenario p.scenario (load_line x)) (ok_is _ f a.2) (next_load d.last
    d.scenario (load_line x) a.0 refl law.empties law.version order (load_declared d.scenario x a.0 can a.1).same)
next_added d f (cmd_line x) law fits order can e =
    let a = bind_ok (full_cmd_def d.scenario d.needs x) _ f e in
    subst (λ (p : Progress). IsNext d.last d.scenario p.scenario (cmd_line x)) (ok_is _ f a.2)
    (next_cmd d.last d.scenario (cmd_line x) a.0 refl law.empties law.version order
    (full_cmd_declared d.scenario d.needs x a.0 can.0 can.1 a.1).same)
next_added d f (abort_line x) law fits order can e =
    let a = bind_ok (abort_def d.scenario x) _ f e in
    subst (λ (p : Progress). IsNext d.last d.scenario p.scenario (abort_line x)) (ok_is _ f a.2) (next_abort d.last
    d.scenario (abort_line x) a.0 refl law.empties law.version order (abort_declared d.scenario x a.0 a.1).same)
next_added d f (reset_line x) law fits order can e =
    let a = bind_ok (reset_def d.scenario x) _ f e in
    subst (λ (p : Progress). IsNext d.last d.scenario p.scenario (reset_line x)) (ok_is _ f a.2) (next_reset d.last
    d.scenario (reset_line x) a.0 refl law.empties law.version order (reset_declared d.scenario x a.0 a.1).same)
next_added d f (fault_line x) law fits order can e =
    let a = bind_ok (fault_def d.scenario x) _ f e in
    subst (λ (p : Progress). IsNext d.last d.scenario p.scenario (fault_line x)) (ok_is _ f a.2) (next_fault d.last
    d.scenario (fault_line x) a.0 refl law.empties law.version order (fault_declared d.scenario x a.0 a.1).same)
next_added d f end_line law fits order can e =
    let up = rises (rank d.last) 12 (omega arith) order in
    let low = up.0 in
    let key = middle d.last d.scenario 12 (omega arith) order in
    subst (λ (p : Progress). IsNext d.last d.scenario p.scenario end_line) (ok_is d f e) (record {
      same = sym (ap (λ (ys : List Said). ys ++ end_line ∷ []) key);
      empties = record {
        hosts = λ h. absurd (omega arith);
        targets = λ h. absurd (omega arith);
        units = λ h. absurd (omega arith);
        fills = λ h. absurd (omega arith);
        tapes = λ h. absurd (omega arith);
        loads = λ h. absurd (omega arith);
        commands = λ h. absurd (omega arith);
        aborts = λ h. absurd (omega arith);
        resets = λ h. absurd (omega arith);
        faults = λ h. absurd (omega arith);
      };
      version = λ h. law.version low;
    })

room_ok : (s : ScenarioValue) (needs n : ℕ) → has_room s needs n ≡ true → (n ≤ NEED_LIMIT) × (needs + n ≤ NEEDS_LIMIT)
room_ok s needs n e = (grind (arith, nat_tests), grind (arith, nat_tests))

-- While there are no commands, what is declared changes no need.
no_needs : (d : Progress) (t : ScenarioValue) → t.commands ≡ [] → d.scenario.commands ≡ [] → HasNeeds d
    → HasNeeds (with_scenario d t)
no_needs d t e f n = record {
  each = subst (λ (cs : List CmdDef). AllByRecursion (λ c. need_of t c ≤ NEED_LIMIT) cs) (sym e) tt;
  total = n.total ∙ (ap (sum_by (need_of d.scenario)) f ∙ sym (ap (sum_by (need_of t)) e));
  bound = n.bound;
}

cmd_needs : (d : Progress) (def : CmdDef) → HasNeeds d → has_room d.scenario d.needs (need_of d.scenario def) ≡ true
    → HasNeeds (record d {
      scenario = record d.scenario { commands = d.scenario.commands ++ def ∷ [] };
      needs = d.needs + need_of d.scenario def;
    })
unfolding need_of
cmd_needs d def n e =
    let room = room_ok d.scenario d.needs (need_of d.scenario def) e in
    let sums = sum_by-append (need_of d.scenario) d.scenario.commands (def ∷ []) in
    let total = n.total in
    let one : sum_by (need_of d.scenario) (def ∷ []) ≡ need_of d.scenario def = omega arith in
    record {
      each = all_with (λ c. need_of d.scenario c ≤ NEED_LIMIT) d.scenario.commands def n.each room.0;
      total = (λ i. total i + sym one i) ∙ sym sums;
      bound = room.1;
    }

needs_added : (d f : Progress) (x : Said) → IsLawful d → in_order (rank d.last) (rank (kind_of x)) ≡ true
    → added d x ≡ Ok f → HasNeeds f
unfolding added full_cmd_def need_of
needs_added d f (scsi_line v) law order e =
    let n = law.needs in
    subst HasNeeds (ok_is _ f e) (record { each = n.each; total = n.total; bound = n.bound })
needs_added d f (initiator_line x) law order e =
    let n = law.needs in
    let a = bind_ok (host_def d.scenario x) _ f e in
    subst HasNeeds (ok_is _ f a.2) (record { each = n.each; total = n.total; bound = n.bound })
needs_added d f (target_line x) law order e =
    let le = (rises (rank d.last) 3 (omega arith) order).1 in
    let none = law.empties.commands (omega arith) in
    let a = bind_ok (target_def d.scenario x) _ f e in
    subst HasNeeds (ok_is _ f a.2)
    (no_needs d (record d.scenario { targets = d.scenario.targets ++ a.0 ∷ [] }) none none law.needs)
needs_added d f (unit_line x) law order e =
    let le = (rises (rank d.last) 4 (omega arith) order).1 in
    let none = law.empties.commands (omega arith) in
    let a = bind_ok (unit_def d.scenario x) _ f e in
    subst HasNeeds (ok_is _ f a.2)
    (no_needs d (record d.scenario { units = d.scenario.units ++ a.0 ∷ [] }) none none law.needs)
needs_added d f (fill_line x) law order e =
    let n = law.needs in
    let a = bind_ok (fill_def d.scenario x) _ f e in
    subst HasNeeds (ok_is _ f a.2) (record { each = n.each; total = n.total; bound = n.bound })
needs_added d f (tape_line x) law order e =
    let le = (rises (rank d.last) 6 (omega arith) order).1 in
    let none = law.empties.commands (omega arith) in
    let a = bind_ok (tape_def d.scenario x) _ f e in
    subst HasNeeds (ok_is _ f a.2)
    (no_needs d (record d.scenario { tapes = d.scenario.tapes ++ a.0 ∷ [] }) none none law.needs)
needs_added d f (load_line x) law order e =
    let n = law.needs in
    let a = bind_ok (load_def d.scenario x) _ f e in
    subst HasNeeds (ok_is _ f a.2) (record { each = n.each; total = n.total; bound = n.bound })
needs_added d f (cmd_line x) law order e =
    let a = bind_ok (full_cmd_def d.scenario d.needs x) _ f e in
    let b = bind_ok (cmd_def d.scenario x) _ a.0 a.1 in
    let g = bind_ok (guard 7 (is_payload (sent_of d.scenario b.0) (b.0).payload)) _ a.0 b.2 in
    let h = bind_ok (guard 8 (has_room d.scenario d.needs (need_of d.scenario b.0))) _ a.0 g.2 in
    let same : b.0 ≡ a.0 = ok_is b.0 a.0 h.2 in
    let room : has_room d.scenario d.needs (need_of d.scenario a.0) ≡ true = subst
    (λ (c : CmdDef). has_room d.scenario d.needs (need_of d.scenario c) ≡ true) same (guard_ok 8 _ h.0 h.1) in
    subst HasNeeds (ok_is _ f a.2) (cmd_needs d a.0 law.needs room)
needs_added d f (abort_line x) law order e =
    let n = law.needs in
    let a = bind_ok (abort_def d.scenario x) _ f e in
    subst HasNeeds (ok_is _ f a.2) (record { each = n.each; total = n.total; bound = n.bound })
needs_added d f (reset_line x) law order e =
    let n = law.needs in
    let a = bind_ok (reset_def d.scenario x) _ f e in
    subst HasNeeds (ok_is _ f a.2) (record { each = n.each; total = n.total; bound = n.bound })
needs_added d f (fault_line x) law order e =
    let n = law.needs in
    let a = bind_ok (fault_def d.scenario x) _ f e in
    subst HasNeeds (ok_is _ f a.2) (record { each = n.each; total = n.total; bound = n.bound })
needs_added d f end_line law order e = subst HasNeeds (ok_is d f e) law.needs

built_step : (r : Result Progress ℕ) (xs ys : List Said) (e : Progress) → (r >>= λ d. built d xs) ≡ Ok e
    → ((d : Progress) → built d xs ≡ Ok e → built d (xs ++ ys) ≡ built e ys)
    → (r >>= λ d. built d (xs ++ ys)) ≡ built e ys
built_step (Ok d) xs ys e h ih = ih d h
built_step (Err r) xs ys e h ih = absurd cc

pub built-append : (xs ys : List Said) (d e : Progress) → built d xs ≡ Ok e → built d (xs ++ ys) ≡ built e ys
built-append [] ys d e h = ap (λ (f : Progress). built f ys) (ok_is d e h)
built-append (x ∷ xs) ys d e h = built_step (said_after d x) xs ys e h (λ f g. built-append xs ys f e g)

-- The lines that were read are those of before and this one.
record IsMore (d e : Progress) (x : Said) : Type 0 where
  lawful : IsLawful e
  same : saids_at e.last e.scenario ≡ saids_at d.last d.scenario ++ x ∷ []

rank_some : (x : Said) → 0 < rank (kind_of x)
rank_some (scsi_line v) = omega arith
rank_some (initiator_line f) = omega arith
rank_some (target_line f) = omega arith
rank_some (unit_line f) = omega arith
rank_some (fill_line f) = omega arith
rank_some (tape_line f) = omega arith
rank_some (load_line f) = omega arith
rank_some (cmd_line f) = omega arith
rank_some (abort_line f) = omega arith
rank_some (reset_line f) = omega arith
rank_some (fault_line f) = omega arith
rank_some end_line = omega arith

more : (d e : Progress) (x : Said) → IsLawful d → CanSay x → said_after d x ≡ Ok e → IsMore d e x
more d e x law can ok =
    let t = taken d e x ok in
    let f : Progress = record t.before { last = kind_of x } in
    let n = next_added d t.before x law t.fits t.order can t.step in
    let one : built d (x ∷ []) ≡ Ok e = ap (λ (r : Result Progress ℕ). r >>= λ f. Ok f) ok in
    let so_far : built nothing (saids_at d.last d.scenario ++ x ∷ []) ≡ Ok e =
    built-append (saids_at d.last d.scenario) (x ∷ []) nothing d law.so_far ∙ one in
    let made : saids_at (kind_of x) t.before.scenario ≡ saids_at d.last d.scenario ++ x ∷ [] = n.same in
    let some = rank_some x in
    let counted = needs_added d t.before x law t.order t.step in
    let lawful : IsLawful f = record {
      needs = record { each = counted.each; total = counted.total; bound = counted.bound };
      so_far = ap (built nothing) made ∙ (so_far ∙ ap (λ (g : Progress). Ok g) (sym t.is));
      can = subst (AllByRecursion CanSay) (sym made)
          (append_all CanSay (saids_at d.last d.scenario) (x ∷ []) law.can (can, tt));
      empties = n.empties;
      start = λ h. absurd (omega arith);
      version = n.version;
    } in
    record {
      lawful = subst IsLawful t.is lawful;
      same = subst (λ (g : Progress). saids_at g.last g.scenario ≡ saids_at d.last d.scenario ++ x ∷ []) t.is made;
    }

-- ---- the lines of a text

abbrev sizes : List Line → ℕ
sizes [] = 0
sizes (l ∷ ls) = (length l.text + cond l.ended 1 0) + sizes ls

onto_size : (b : ℕ) (ls : List Line) → sizes (onto b ls) ≡ sizes ls + 1
onto_size b [] = refl
onto_size b (l ∷ ls) = omega arith

sizes_step : (b : ℕ) (bs : List ℕ) (q : Bool) → (b == 10) ≡ q → sizes (lines_of bs) ≡ length bs
    → sizes (lines_of (b ∷ bs)) ≡ length bs + 1
sizes_step b bs true e ih = rw e (omega arith)
sizes_step b bs false e ih = rw e (onto_size b (lines_of bs) ∙ ap (λ (n : ℕ). n + 1) ih)

sizes_lines : (bs : List ℕ) → sizes (lines_of bs) ≡ length bs
sizes_lines [] = refl
sizes_lines (b ∷ bs) = sizes_step b bs (b == 10) refl (sizes_lines bs) ∙ omega arith

abbrev written : Progress → ℕ
written d = length (flat_map said_line (saids_at d.last d.scenario))

-- A line more keeps what was read lawful, and its text is as long as the line.
record IsKept (d e : Progress) (more : ℕ) : Type 0 where
  lawful : IsLawful e
  size : written e ≤ written d + more

formed_ok : (o : Option Said) (x : Said) → formed o ≡ Ok x → o ≡ Some x
formed_ok None x e = absurd cc
formed_ok (Some y) x e = ap (λ (z : Said). Some z) (ok_is y x e)

longer : (d e : Progress) (x : Said) (line : List ℕ) → IsMore d e x → line ≡ said_text x
    → written e ≡ written d + (length line + 1)
longer d e x line m t =
    let all : flat_map said_line (saids_at e.last e.scenario)
    ≡ flat_map said_line (saids_at d.last d.scenario) ++ flat_map said_line (x ∷ []) = ap (flat_map said_line) m.same
    ∙ flat_map-append said_line (saids_at d.last d.scenario) (x ∷ []) in
    let last : flat_map said_line (x ∷ []) ≡ said_text x ++ 10 ∷ [] = append-nil (said_text x ++ 10 ∷ []) in
    ap length all ∙ (length-append (flat_map said_line (saids_at d.last d.scenario)) (flat_map said_line (x ∷ []))
    ∙ ap (λ (n : ℕ). written d + n)
    (ap length last ∙ (length-append (said_text x) (10 ∷ []) ∙ ap (λ (n : ℕ). n + 1) (ap length (sym t)))))

kept : (d e : Progress) (l : Line) → IsLawful d → line_after d l ≡ Ok e → IsKept d e (length l.text + cond l.ended 1 0)
unfolding line_after
kept d e l law ok =
    let p = bind_ok (guard 1 (list_all is_printable l.text)) _ e ok in
    let q = bind_ok (guard 2 l.ended) _ e p.2 in
    go (is_skipped l.text) (guard_ok 2 l.ended q.0 q.1) q.2 where
      go : (t : Bool) → l.ended ≡ true → cond t (Ok d) (formed (form_of l.text) >>= λ s. said_after d s) ≡ Ok e
          → IsKept d e (length l.text + cond l.ended 1 0)
      go true ended h =
          let same : d ≡ e = ok_is d e h in
          subst (λ (f : Progress). IsKept d f (length l.text + cond l.ended 1 0)) same
          (record { lawful = law; size = omega arith })
      go false ended h =
          let x = bind_ok (formed (form_of l.text)) _ e h in
          let read = form_only l.text x.0 (formed_ok (form_of l.text) x.0 x.1) in
          let spelled = spelled_after d e x.0 read.can x.2 in
          let m = more d e x.0 law read.can x.2 in
          let size = longer d e x.0 l.text m (read.text spelled) in
          rw ended (record { lawful = m.lawful; size = omega arith })

and_then_ok : (n : ℕ) (r : Result Progress ℕ) (f : Progress → Result ScenarioValue (ℕ × ℕ)) (s : ScenarioValue)
    → and_then n r f ≡ Ok s → (d : Progress) × (r ≡ Ok d) × (f d ≡ Ok s)
and_then_ok n (Ok d) f s e = (d, refl, e)
and_then_ok n (Err r) f s e = absurd cc

record IsDone (s : ScenarioValue) (limit : ℕ) : Type 0 where
  progress : Progress
  lawful : built nothing (saids s) ≡ Ok progress
  is : progress.scenario ≡ s
  can : AllByRecursion CanSay (saids s)
  version : IsVersion s.version
  size : length (text_of s) ≤ limit
  each : AllByRecursion (λ c. need_of s c ≤ NEED_LIMIT) s.commands
  all : sum_by (need_of s) s.commands ≤ NEEDS_LIMIT

done : (k : Kind) (v s : ScenarioValue) (needs n limit : ℕ)
    → IsLawful (record { scenario = v; last = k; needs = needs }) → length (flat_map said_line (saids_at k v)) ≤ limit
    → ◌≡◌ {A = Result ScenarioValue (ℕ × ℕ)} (cond (is_end k) (Ok v) (Err (n, 2))) (Ok s) → IsDone s limit
done kinds.Nothing v s needs n limit law le e = absurd cc
done kinds.Scsi v s needs n limit law le e = absurd cc
done kinds.Initiator v s needs n limit law le e = absurd cc
done kinds.Target v s needs n limit law le e = absurd cc
done kinds.Unit v s needs n limit law le e = absurd cc
done kinds.Fill v s needs n limit law le e = absurd cc
done kinds.Tape v s needs n limit law le e = absurd cc
done kinds.Load v s needs n limit law le e = absurd cc
done kinds.Cmd v s needs n limit law le e = absurd cc
done kinds.Abort v s needs n limit law le e = absurd cc
done kinds.Reset v s needs n limit law le e = absurd cc
done kinds.Fault v s needs n limit law le e = absurd cc
done kinds.End v s needs n limit law le e =
    let same : v ≡ s = cc in
    let counted = law.needs in
    let total = counted.total in
    let bound = counted.bound in
    subst (λ (w : ScenarioValue). IsDone w limit) same (record {
      progress = record { scenario = v; last = kinds.End; needs = needs };
      lawful = law.so_far;
      is = refl;
      can = law.can;
      version = law.version (omega arith);
      size = le;
      each = counted.each;
      all = omega arith;
    })

reads : (lines : List Line) (d : Progress) (n : ℕ) (s : ScenarioValue) (limit : ℕ) → IsLawful d
    → written d + sizes lines ≤ limit → read_from d n lines ≡ Ok s → IsDone s limit
unfolding read_from
reads [] d n s limit law le e = done d.last d.scenario s d.needs (n + 1) limit law (omega arith) e
reads (l ∷ lines) d n s limit law le e =
    let p = and_then_ok n (line_after d l) (λ (f : Progress). read_from f (n + 1) lines) s e in
    let k = kept d p.0 l law p.1 in
    let size = k.size in
    reads lines p.0 (n + 1) s limit k.lawful (omega arith) p.2

all_left : (P : Said → Type 0) (xs ys : List Said) → AllByRecursion P (xs ++ ys) → AllByRecursion P xs
all_left P [] ys h = tt
all_left P (x ∷ xs) ys h = (h.0, all_left P xs ys h.1)

all_right : (P : Said → Type 0) (xs ys : List Said) → AllByRecursion P (xs ++ ys) → AllByRecursion P ys
all_right P [] ys h = h
all_right P (x ∷ xs) ys h = all_right P xs ys h.1

fills_hex : (fs : List FillDef) → AllByRecursion CanSay (map said_fill fs) → AllByRecursion (λ f. IsHex f.bytes) fs
fills_hex [] h = tt
fills_hex (f ∷ fs) h = (h.0, fills_hex fs h.1)

load_hex : (l : Load) → IsSpelledObject (said_object l) → IsHexLoad l
load_hex (loads.Block bytes) h = h
load_hex loads.Mark h = tt

loads_hex : (ls : List LoadDef) → AllByRecursion CanSay (map said_load ls) → AllByRecursion (λ l. IsHexLoad l.what) ls
loads_hex [] h = tt
loads_hex (l ∷ ls) h = (load_hex l.what h.0, loads_hex ls h.1)

payload_hex : (p : Payload) → IsSpelledPayload (said_payload p) → IsHexPayload p
payload_hex payloads.Nothing h = tt
payload_hex (payloads.Hex bytes) h = h
payload_hex (payloads.From b) h = h

cmds_hex : (cs : List CmdDef) → AllByRecursion CanSay (map said_cmd cs)
    → AllByRecursion (λ c. IsHex c.cdb × IsHexPayload c.payload) cs
cmds_hex [] h = tt
cmds_hex (c ∷ cs) h = (((h.0).0, payload_hex c.payload (h.0).1), cmds_hex cs h.1)

limit_ok : (t : Bool) (r : Result ScenarioValue (ℕ × ℕ)) (s : ScenarioValue) → cond t (Err (0, 9)) r ≡ Ok s
    → (t ≡ false) × (r ≡ Ok s)
limit_ok true r s e = absurd cc
limit_ok false r s e = (refl, e)

pub start : IsLawful nothing
start = record {
  needs = record { each = tt; total = refl; bound = omega arith };
  so_far = refl;
  can = tt;
  empties = record {
    hosts = λ h. refl;
    targets = λ h. refl;
    units = λ h. refl;
    fills = λ h. refl;
    tapes = λ h. refl;
    loads = λ h. refl;
    commands = λ h. refl;
    aborts = λ h. refl;
    resets = λ h. refl;
    faults = λ h. refl;
  };
  start = λ h. refl;
  version = λ h. absurd (omega arith);
}

pub read_obeys : (bytes : List ℕ) (s : ScenarioValue) → scenario_of bytes ≡ Ok s → Obeys s
read_obeys bytes s e =
    let p = limit_ok (ltb LIMIT (length bytes)) (read_from nothing 0 (lines_of bytes)) s e in
    let short : length bytes ≤ LIMIT = ltb-false _ _ p.0 in
    let d = reads (lines_of bytes) nothing 0 s LIMIT start (omega (arith, sizes_lines bytes)) p.1 in
    let all : AllByRecursion CanSay (body_of s) = all_left CanSay (body_of s) (end_line ∷ []) (d.can).1 in
    let after_units : AllByRecursion CanSay
    (map said_fill s.fills ++ (map said_tape s.tapes ++ (map said_load s.loads ++ events_of s))) = all_right CanSay
    (map said_unit s.units) _ (all_right CanSay (map (said_target s.version) s.targets) _
    (all_right CanSay (map (said_host s.version) s.hosts) _ all)) in
    let after_tapes : AllByRecursion CanSay (map said_load s.loads ++ events_of s) = all_right CanSay
    (map said_tape s.tapes) _ (all_right CanSay (map said_fill s.fills) _ after_units) in
    record {
      version = d.version;
      lawful = ap told_scenario d.lawful ∙ ap (λ (t : ScenarioValue). Ok t) d.is;
      fills = fills_hex s.fills (all_left CanSay (map said_fill s.fills) _ after_units);
      loads = loads_hex s.loads (all_left CanSay (map said_load s.loads) (events_of s) after_tapes);
      commands = cmds_hex s.commands (all_left CanSay (map said_cmd s.commands) _
          (all_right CanSay (map said_load s.loads) (events_of s) after_tapes));
      limit = d.size;
    }

pub answer_obeys : (bytes : List ℕ) (r : Result ScenarioValue Bad) → Answers r (scenario_of bytes)
    → IfOk r (λ s. Obeys s)
answer_obeys bytes (Ok s) e = read_obeys bytes s e
answer_obeys bytes (Err b) e = tt

-- The lines of a scenario that obeys the rules are read.
again : (s : ScenarioValue) → Obeys s → IsDone s LIMIT
again s h =
    let p = limit_ok (ltb LIMIT (length (text_of s))) (read_from nothing 0 (lines_of (text_of s))) s (read_back s h) in
    let limit = h.limit in
    reads (lines_of (text_of s)) nothing 0 s LIMIT start (omega (arith, sizes_lines (text_of s))) p.1

pub each_need : (s : ScenarioValue) → Obeys s → AllByRecursion (λ c. need_of s c ≤ NEED_LIMIT) s.commands
each_need s h = (again s h).each

pub all_needs : (s : ScenarioValue) → Obeys s → sum_by (need_of s) s.commands ≤ NEEDS_LIMIT
all_needs s h = (again s h).all
