-- A scenario that obeys the rules is printed as a text that says it.
use Rattle.std.proofs.Common.{◌≡◌, ℕ, true, List, [], ◌∷◌, ◌++◌, length, map, Ok, sym, ap, ◌∙◌}
use Rattle.std.specs.List.{AllByRecursion}
use Rattle.std.proofs.lemmas.Bool.{le-ltb}
use Rattle.scenario.specs.declared.bounds.TheConstants.{LIMIT}
use Rattle.scenario.specs.declared.value.HostDef.{HostDef}
use Rattle.scenario.specs.declared.value.TargetDef.{TargetDef}
use Rattle.scenario.specs.declared.value.UnitDef.{UnitDef}
use Rattle.scenario.specs.declared.value.FillDef.{FillDef}
use Rattle.scenario.specs.declared.value.TapeDef.{TapeDef}
use Rattle.scenario.specs.declared.value.Load.{Load}
use Rattle.scenario.specs.declared.value.Load.TheVariants as loads
use Rattle.scenario.specs.declared.value.LoadDef.{LoadDef}
use Rattle.scenario.specs.declared.value.Payload.{Payload}
use Rattle.scenario.specs.declared.value.Payload.TheVariants as payloads
use Rattle.scenario.specs.declared.value.CmdDef.{CmdDef}
use Rattle.scenario.specs.declared.value.AbortDef.{AbortDef}
use Rattle.scenario.specs.declared.value.ResetDef.{ResetDef}
use Rattle.scenario.specs.declared.value.FaultDef.{FaultDef}
use Rattle.scenario.specs.Value.{ScenarioValue}
use Rattle.scenario.specs.Forms.{Said, scsi_line, initiator_line, target_line, unit_line, fill_line, tape_line}
use Rattle.scenario.specs.Forms.{load_line, cmd_line, abort_line, reset_line, fault_line, end_line}
use Rattle.scenario.specs.Reading.{Progress, guard, host_def, target_def, unit_def, fill_def, full_cmd_def, abort_def}
use Rattle.scenario.specs.Reading.{tape_def, load_def}
use Rattle.scenario.specs.Reading.{reset_def, fault_def, fits_version, added, said_after, in_order, rank, kind_of}
use Rattle.scenario.specs.Reading.{nothing, scenario_of, is_end}
use Rattle.scenario.specs.Writing.{saids, body_of, events_of, text_of, built, Obeys, IsHex, IsHexPayload}
use Rattle.scenario.specs.Writing.{said_payload, said_host, said_target, said_unit, said_fill, said_cmd, said_abort}
use Rattle.scenario.specs.Writing.{said_reset, said_fault, said_tape, said_object, said_load, IsHexLoad}
use Rattle.scenario.proofs.FormsAgain.{IsVersion, IsSpelled}
use Rattle.scenario.proofs.PartsAgain.{IsSpelledObject, IsSpelledPayload}
use Rattle.scenario.proofs.Again.{AreSpelled, text_again}
use Rattle.scenario.proofs.Steps.{bind_ok, ok_is, guard_ok}
use Rattle.scenario.proofs.Declared.{host_declared, target_declared, unit_declared, fill_declared, full_cmd_declared}
use Rattle.scenario.proofs.Declared.{tape_declared, load_declared, abort_declared, reset_declared, fault_declared}

-- What a line tells can be spelled, but for its numbers.
abbrev pub CanSay : Said → Type 0
CanSay (scsi_line v) = IsVersion v
CanSay (fill_line f) = IsHex f.bytes
CanSay (load_line f) = IsSpelledObject f.what
CanSay (cmd_line c) = IsHex c.cdb × IsSpelledPayload c.payload
CanSay (initiator_line f) = Unit {0}
CanSay (target_line f) = Unit {0}
CanSay (unit_line f) = Unit {0}
CanSay (tape_line f) = Unit {0}
CanSay (abort_line f) = Unit {0}
CanSay (reset_line f) = Unit {0}
CanSay (fault_line f) = Unit {0}
CanSay end_line = Unit {0}

pub spelled_added : (d e : Progress) (x : Said) → fits_version d.scenario.version x ≡ true → CanSay x → added d x ≡ Ok e
    → IsSpelled x
unfolding added
spelled_added d e (scsi_line v) f h ok = h
spelled_added d e (initiator_line x) f h ok =
    let a = bind_ok (host_def d.scenario x) _ e ok in
    (host_declared d.scenario d.scenario.version x a.0 f a.1).spelled
spelled_added d e (target_line x) f h ok =
    let a = bind_ok (target_def d.scenario x) _ e ok in
    (target_declared d.scenario d.scenario.version x a.0 f a.1).spelled
spelled_added d e (unit_line x) f h ok =
    let a = bind_ok (unit_def d.scenario x) _ e ok in
    (unit_declared d.scenario x a.0 a.1).spelled
spelled_added d e (fill_line x) f h ok =
    let a = bind_ok (fill_def d.scenario x) _ e ok in
    (fill_declared d.scenario x a.0 h a.1).spelled
spelled_added d e (tape_line x) f h ok =
    let a = bind_ok (tape_def d.scenario x) _ e ok in
    (tape_declared d.scenario x a.0 a.1).spelled
spelled_added d e (load_line x) f h ok =
    let a = bind_ok (load_def d.scenario x) _ e ok in
    (load_declared d.scenario x a.0 h a.1).spelled
spelled_added d e (cmd_line x) f h ok =
    let a = bind_ok (full_cmd_def d.scenario d.needs x) _ e ok in
    (full_cmd_declared d.scenario d.needs x a.0 h.0 h.1 a.1).spelled
spelled_added d e (abort_line x) f h ok =
    let a = bind_ok (abort_def d.scenario x) _ e ok in
    (abort_declared d.scenario x a.0 a.1).spelled
spelled_added d e (reset_line x) f h ok =
    let a = bind_ok (reset_def d.scenario x) _ e ok in
    (reset_declared d.scenario x a.0 a.1).spelled
spelled_added d e (fault_line x) f h ok =
    let a = bind_ok (fault_def d.scenario x) _ e ok in
    (fault_declared d.scenario x a.0 a.1).spelled
spelled_added d e end_line f h ok = tt

-- The steps of a line that was taken.
pub record IsTaken (d e : Progress) (x : Said) : Type 0 where
  pub before : Progress
  pub fits : fits_version d.scenario.version x ≡ true
  pub order : in_order (rank d.last) (rank (kind_of x)) ≡ true
  pub step : added d x ≡ Ok before
  pub is : record before { last = kind_of x } ≡ e

pub taken : (d e : Progress) (x : Said) → said_after d x ≡ Ok e → IsTaken d e x
unfolding said_after
taken d e x ok =
    let f = bind_ok (guard 2 (fits_version d.scenario.version x)) _ e ok in
    let g = bind_ok (guard 3 (in_order (rank d.last) (rank (kind_of x)))) _ e f.2 in
    let a = bind_ok (added d x) _ e g.2 in
    record { before = a.0; fits = guard_ok 2 _ f.0 f.1; order = guard_ok 3 _ g.0 g.1; step = a.1; is = ok_is _ e a.2 }

pub spelled_after : (d e : Progress) (x : Said) → CanSay x → said_after d x ≡ Ok e → IsSpelled x
spelled_after d e x h ok = let t = taken d e x ok in spelled_added d t.before x t.fits h t.step

are_spelled : (xs : List Said) (d e : Progress) → AllByRecursion CanSay xs → built d xs ≡ Ok e → AreSpelled xs
are_spelled [] d e h ok = tt
are_spelled (x ∷ xs) d e h ok =
    let b = bind_ok (said_after d x) _ e ok in
    (spelled_after d b.0 x h.0 b.1, are_spelled xs b.0 e h.1 b.2)

-- Where the last line is `end`, it was the last one taken.
ends : (xs : List Said) (d e : Progress) → built d (xs ++ end_line ∷ []) ≡ Ok e → is_end e.last ≡ true
ends [] d e ok =
    let b = bind_ok (said_after d end_line) _ e ok in
    let t = taken d b.0 end_line b.1 in
    let same : record t.before { last = kind_of end_line } ≡ e = t.is ∙ ok_is b.0 e b.2 in
    sym (ap (λ (p : Progress). is_end p.last) same)
ends (x ∷ xs) d e ok = let b = bind_ok (said_after d x) _ e ok in ends xs b.0 e b.2

pub append_all : (P : Said → Type 0) (xs ys : List Said) → AllByRecursion P xs → AllByRecursion P ys
    → AllByRecursion P (xs ++ ys)
append_all P [] ys a b = b
append_all P (x ∷ xs) ys a b = (a.0, append_all P xs ys a.1 b)

hosts_can : (v : ℕ) (xs : List HostDef) → AllByRecursion CanSay (map (said_host v) xs)
hosts_can v [] = tt
hosts_can v (x ∷ xs) = (tt, hosts_can v xs)

targets_can : (v : ℕ) (xs : List TargetDef) → AllByRecursion CanSay (map (said_target v) xs)
targets_can v [] = tt
targets_can v (x ∷ xs) = (tt, targets_can v xs)

units_can : (xs : List UnitDef) → AllByRecursion CanSay (map said_unit xs)
units_can [] = tt
units_can (x ∷ xs) = (tt, units_can xs)

fills_can : (xs : List FillDef) → AllByRecursion (λ f. IsHex f.bytes) xs → AllByRecursion CanSay (map said_fill xs)
fills_can [] h = tt
fills_can (x ∷ xs) h = (h.0, fills_can xs h.1)

tapes_can : (xs : List TapeDef) → AllByRecursion CanSay (map said_tape xs)
tapes_can [] = tt
tapes_can (x ∷ xs) = (tt, tapes_can xs)

load_can : (l : Load) → IsHexLoad l → IsSpelledObject (said_object l)
load_can (loads.Block bytes) h = h
load_can loads.Mark h = tt

loads_can : (xs : List LoadDef) → AllByRecursion (λ l. IsHexLoad l.what) xs → AllByRecursion CanSay (map said_load xs)
loads_can [] h = tt
loads_can (x ∷ xs) h = (load_can x.what h.0, loads_can xs h.1)

payload_can : (p : Payload) → IsHexPayload p → IsSpelledPayload (said_payload p)
payload_can payloads.Nothing h = tt
payload_can (payloads.Hex bytes) h = h
payload_can (payloads.From b) h = h

cmds_can : (xs : List CmdDef) → AllByRecursion (λ c. IsHex c.cdb × IsHexPayload c.payload) xs
    → AllByRecursion CanSay (map said_cmd xs)
cmds_can [] h = tt
cmds_can (x ∷ xs) h = (((h.0).0, payload_can x.payload (h.0).1), cmds_can xs h.1)

aborts_can : (xs : List AbortDef) → AllByRecursion CanSay (map said_abort xs)
aborts_can [] = tt
aborts_can (x ∷ xs) = (tt, aborts_can xs)

resets_can : (xs : List ResetDef) → AllByRecursion CanSay (map said_reset xs)
resets_can [] = tt
resets_can (x ∷ xs) = (tt, resets_can xs)

faults_can : (xs : List FaultDef) → AllByRecursion CanSay (map said_fault xs)
faults_can [] = tt
faults_can (x ∷ xs) = (tt, faults_can xs)

saids_can : (s : ScenarioValue) → Obeys s → AllByRecursion CanSay (saids s)
saids_can s h =
    let events : AllByRecursion CanSay (events_of s) = append_all CanSay (map said_cmd s.commands) _
    (cmds_can s.commands h.commands) (append_all CanSay (map said_abort s.aborts) _ (aborts_can s.aborts)
    (append_all CanSay (map said_reset s.resets) _ (resets_can s.resets) (faults_can s.faults))) in
    let body : AllByRecursion CanSay (body_of s) = append_all CanSay (map (said_host s.version) s.hosts) _
    (hosts_can s.version s.hosts) (append_all CanSay (map (said_target s.version) s.targets) _
    (targets_can s.version s.targets) (append_all CanSay (map said_unit s.units) _ (units_can s.units)
    (append_all CanSay (map said_fill s.fills) _ (fills_can s.fills h.fills) (append_all CanSay (map said_tape s.tapes)
    _ (tapes_can s.tapes) (append_all CanSay (map said_load s.loads) _ (loads_can s.loads h.loads) events))))) in
    (h.version, append_all CanSay (body_of s) (end_line ∷ []) body (tt, tt))

pub read_back : (s : ScenarioValue) → Obeys s → scenario_of (text_of s) ≡ Ok s
read_back s h =
    let b = bind_ok (built nothing (saids s)) (λ (d : Progress). Ok d.scenario) s h.lawful in
    let spelled = are_spelled (saids s) nothing b.0 (saids_can s h) b.1 in
    let end = ends (scsi_line s.version ∷ body_of s) nothing b.0 b.1 in
    let limit = h.limit in
    rw (le-ltb LIMIT (length (text_of s)) limit)
    (text_again (saids s) spelled nothing b.0 0 b.1 end ∙ ap (λ (t : ScenarioValue). Ok t) (ok_is (b.0).scenario s b.2))
