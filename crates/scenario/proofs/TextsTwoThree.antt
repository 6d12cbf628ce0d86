-- Texts 2 and 3 differ by tapes alone.
use Rattle.std.proofs.Common.{◌≡◌, ℕ, ◌+◌, Bool, true, false, cond, not, List, [], ◌∷◌, ◌++◌, length, map, Some}
use Rattle.std.proofs.Common.{None, Result, Ok, Err, refl, sym, ap, subst, ◌∙◌, arith, length-append}
use Rattle.std.specs.Prelude.{◌==◌, codes, if◌then◌else◌}
use Rattle.std.specs.List.{flat_map, AllByRecursion}
use Rattle.scenario.specs.declared.value.HostDef.{HostDef}
use Rattle.scenario.specs.declared.value.TargetDef.{TargetDef}
use Rattle.scenario.specs.declared.value.UnitDef.{UnitDef}
use Rattle.scenario.specs.declared.value.FillDef.{FillDef}
use Rattle.scenario.specs.declared.value.TapeDef.{TapeDef}
use Rattle.scenario.specs.declared.value.LoadDef.{LoadDef}
use Rattle.scenario.specs.declared.value.CmdDef.{CmdDef}
use Rattle.scenario.specs.declared.value.AbortDef.{AbortDef}
use Rattle.scenario.specs.declared.value.ResetDef.{ResetDef}
use Rattle.scenario.specs.declared.value.FaultDef.{FaultDef}
use Rattle.scenario.specs.Value.{ScenarioValue}
use Rattle.scenario.specs.Needs.{need_of, sent_of}
use Rattle.scenario.specs.Forms.{Said, scsi_line, initiator_line, target_line, unit_line, fill_line, tape_line}
use Rattle.scenario.specs.Forms.{load_line, cmd_line, abort_line, reset_line, fault_line, end_line}
use Rattle.scenario.specs.Reading.{Progress, ◌>>=◌, guard, with_scenario, host_def, target_def, unit_def, fill_def}
use Rattle.scenario.specs.Reading.{tape_def, load_def, cmd_def, full_cmd_def, abort_def, reset_def, fault_def, added}
use Rattle.scenario.specs.Reading.{said_after, fits_version, kind_of, nothing}
use Rattle.scenario.specs.Writing.{scsi_text, host_form, said_host, target_form, said_target, said_unit, said_fill}
use Rattle.scenario.specs.Writing.{said_tape, said_load, said_cmd, said_abort, said_reset, said_fault, said_line}
use Rattle.scenario.specs.Writing.{events_of, body_of, saids, text_of, built, told_scenario, Obeys}
use Rattle.scenario.proofs.FormsAgain.{IsVersion}
use Rattle.scenario.proofs.Steps.{bind_ok, ok_is}
use Rattle.scenario.proofs.Lawful.{taken, append_all}
use Rattle.scenario.proofs.OnTapes.{no_loads}

-- The same, as a text of this version says it.
abbrev as_text : ℕ → Progress → Progress
as_text w d = with_scenario d (record d.scenario { version = w })

-- ---- no line but the first looks at the version

abbrev IsLater : Said → Type 0
IsLater (scsi_line n) = ⊥
IsLater (initiator_line f) = Unit {0}
IsLater (target_line f) = Unit {0}
IsLater (unit_line f) = Unit {0}
IsLater (fill_line f) = Unit {0}
IsLater (tape_line f) = Unit {0}
IsLater (load_line f) = Unit {0}
IsLater (cmd_line f) = Unit {0}
IsLater (abort_line f) = Unit {0}
IsLater (reset_line f) = Unit {0}
IsLater (fault_line f) = Unit {0}
IsLater end_line = Unit {0}

-- What is made of what was found, and then seen as a text of this version.
then_as : {A : Type 0} (w : ℕ) (r : Result A ℕ) (f : A → Progress) (e : Progress) → (r >>= λ x. Ok (f x)) ≡ Ok e
    → (r >>= λ x. Ok (as_text w (f x))) ≡ Ok (as_text w e)
then_as w (Ok x) f e is = ap (λ (d : Progress). let r : Result Progress ℕ = Ok (as_text w d) in r) (ok_is (f x) e is)
then_as w (Err k) f e is = absurd cc

later_added : (w : ℕ) (d e : Progress) (x : Said) → IsLater x → added d x ≡ Ok e
    → added (as_text w d) x ≡ Ok (as_text w e)
unfolding added host_def target_def unit_def fill_def tape_def load_def cmd_def full_cmd_def abort_def reset_def
    fault_def need_of sent_of
later_added w d e (scsi_line n) h is = absurd h
later_added w d e (initiator_line x) h is = then_as w (host_def d.scenario x) _ e is
later_added w d e (target_line x) h is = then_as w (target_def d.scenario x) _ e is
later_added w d e (unit_line x) h is = then_as w (unit_def d.scenario x) _ e is
later_added w d e (fill_line x) h is = then_as w (fill_def d.scenario x) _ e is
later_added w d e (tape_line x) h is = then_as w (tape_def d.scenario x) _ e is
later_added w d e (load_line x) h is = then_as w (load_def d.scenario x) _ e is
later_added w d e (cmd_line x) h is = then_as w (full_cmd_def d.scenario d.needs x) _ e is
later_added w d e (abort_line x) h is = then_as w (abort_def d.scenario x) _ e is
later_added w d e (reset_line x) h is = then_as w (reset_def d.scenario x) _ e is
later_added w d e (fault_line x) h is = then_as w (fault_def d.scenario x) _ e is
later_added w d e end_line h is =
    ap (λ (z : Progress). let r : Result Progress ℕ = Ok (as_text w z) in r) (ok_is d e is)

-- Seen as a text of its own version it is what it is, so the version stays.
later_version : (d e : Progress) (x : Said) → IsLater x → added d x ≡ Ok e
    → e.scenario.version ≡ d.scenario.version
later_version d e x h is = ap (λ (z : Progress). z.scenario.version)
    (ok_is e (as_text d.scenario.version e) (sym is ∙ later_added d.scenario.version d e x h is))

-- ---- lines of both texts

-- It is a later line, and one of a text of version w where it is one of version v.
abbrev IsShared : ℕ → ℕ → Said → Type 0
IsShared v w x = IsLater x × (fits_version v x ≡ true → fits_version w x ≡ true)

record IsAlso (v w : ℕ) (d e : Progress) (x : Said) : Type 0 where
  version : e.scenario.version ≡ v
  also : said_after (as_text w d) x ≡ Ok (as_text w e)

shared_after : (v w : ℕ) (d e : Progress) (x : Said) → IsShared v w x → d.scenario.version ≡ v
    → said_after d x ≡ Ok e → IsAlso v w d e x
unfolding said_after
shared_after v w d e x h is ok =
    let t = taken d e x ok in
    let fits : fits_version w x ≡ true = h.1 (sym (ap (λ (n : ℕ). fits_version n x) is) ∙ t.fits) in
    let after : added (as_text w d) x ≡ Ok (as_text w t.before) = later_added w d t.before x h.0 t.step in
    record {
      version = sym (ap (λ (z : Progress). z.scenario.version) t.is) ∙ (later_version d t.before x h.0 t.step ∙ is);
      also = (λ i. guard 2 (fits i) >>= λ _. (guard 3 (t.order i) >>= λ _. (after i
          >>= λ f. Ok (record f { last = kind_of x }))))
          ∙ ap (λ (z : Progress). let r : Result Progress ℕ = Ok (as_text w z) in r) t.is;
    }

shared_built : (v w : ℕ) (xs : List Said) (d e : Progress) → AllByRecursion (IsShared v w) xs → d.scenario.version ≡ v
    → built d xs ≡ Ok e → built (as_text w d) xs ≡ Ok (as_text w e)
shared_built v w [] d e h is ok =
    ap (λ (z : Progress). let r : Result Progress ℕ = Ok (as_text w z) in r) (ok_is d e ok)
shared_built v w (x ∷ xs) d e h is ok =
    let b = bind_ok (said_after d x) _ e ok in
    let a = shared_after v w d b.0 x h.0 is b.1 in
    ap (λ (r : Result Progress ℕ). r >>= λ f. built f xs) a.also ∙ shared_built v w xs b.0 e h.1 a.version b.2

-- ---- the lines of a scenario

hosts_shared : (v w : ℕ) → (w == 1) ≡ false → (xs : List HostDef) → AllByRecursion (IsShared v w) (map (said_host 2) xs)
hosts_shared v w q [] = tt
hosts_shared v w q (x ∷ xs) = ((tt, λ f. ap not q), hosts_shared v w q xs)

targets_shared : (v w : ℕ) → (w == 1) ≡ false → (xs : List TargetDef)
    → AllByRecursion (IsShared v w) (map (said_target 2) xs)
targets_shared v w q [] = tt
targets_shared v w q (x ∷ xs) = ((tt, λ f. ap not q), targets_shared v w q xs)

units_shared : (v w : ℕ) (xs : List UnitDef) → AllByRecursion (IsShared v w) (map said_unit xs)
units_shared v w [] = tt
units_shared v w (x ∷ xs) = ((tt, λ f. refl), units_shared v w xs)

fills_shared : (v w : ℕ) (xs : List FillDef) → AllByRecursion (IsShared v w) (map said_fill xs)
fills_shared v w [] = tt
fills_shared v w (x ∷ xs) = ((tt, λ f. refl), fills_shared v w xs)

cmds_shared : (v w : ℕ) (xs : List CmdDef) → AllByRecursion (IsShared v w) (map said_cmd xs)
cmds_shared v w [] = tt
cmds_shared v w (x ∷ xs) = ((tt, λ f. refl), cmds_shared v w xs)

aborts_shared : (v w : ℕ) (xs : List AbortDef) → AllByRecursion (IsShared v w) (map said_abort xs)
aborts_shared v w [] = tt
aborts_shared v w (x ∷ xs) = ((tt, λ f. refl), aborts_shared v w xs)

resets_shared : (v w : ℕ) (xs : List ResetDef) → AllByRecursion (IsShared v w) (map said_reset xs)
resets_shared v w [] = tt
resets_shared v w (x ∷ xs) = ((tt, λ f. refl), resets_shared v w xs)

faults_shared : (v w : ℕ) (xs : List FaultDef) → AllByRecursion (IsShared v w) (map said_fault xs)
faults_shared v w [] = tt
faults_shared v w (x ∷ xs) = ((tt, λ f. refl), faults_shared v w xs)

-- What the lines after the first say, as in text 2.
abbrev later_lines : ScenarioValue → List Said
later_lines s = body_of (record s { version = 2 }) ++ end_line ∷ []

later_shared : (v w : ℕ) → (w == 1) ≡ false → (s : ScenarioValue) → s.tapes ≡ [] → s.loads ≡ []
    → AllByRecursion (IsShared v w) (later_lines s)
later_shared v w q s tapes loads =
    let P : Said → Type 0 = IsShared v w in
    let events : AllByRecursion P (events_of s) = append_all P (map said_cmd s.commands) _ (cmds_shared v w s.commands)
    (append_all P (map said_abort s.aborts) _ (aborts_shared v w s.aborts)
    (append_all P (map said_reset s.resets) _ (resets_shared v w s.resets) (faults_shared v w s.faults))) in
    let no_tape : AllByRecursion P (map said_tape s.tapes) =
    subst (λ (xs : List TapeDef). AllByRecursion P (map said_tape xs)) (sym tapes) tt in
    let no_load : AllByRecursion P (map said_load s.loads) =
    subst (λ (xs : List LoadDef). AllByRecursion P (map said_load xs)) (sym loads) tt in
    append_all P (body_of (record s { version = 2 })) (end_line ∷ []) (append_all P (map (said_host 2) s.hosts) _
    (hosts_shared v w q s.hosts) (append_all P (map (said_target 2) s.targets) _ (targets_shared v w q s.targets)
    (append_all P (map said_unit s.units) _ (units_shared v w s.units) (append_all P (map said_fill s.fills) _
    (fills_shared v w s.fills) (append_all P (map said_tape s.tapes) _ no_tape
    (append_all P (map said_load s.loads) _ no_load events)))))) ((tt, λ f. refl), tt)

-- Each version but 1 says YN.
same_body : (v : ℕ) → (v == 1) ≡ false → (s : ScenarioValue)
    → body_of (record s { version = v }) ≡ body_of (record s { version = 2 })
same_body v p s = λ i.
    map (λ (h : HostDef). initiator_line (record (host_form v h) { offers = if p i then None else Some h.offers }))
    s.hosts
    ++ (map (λ (t : TargetDef). target_line (record (target_form v t) { begins = if p i then None else Some t.begins }))
    s.targets ++ (map said_unit s.units ++ (map said_fill s.fills ++ (map said_tape s.tapes ++ (map said_load s.loads
    ++ events_of s)))))

same_saids : (v : ℕ) → (v == 1) ≡ false → (s : ScenarioValue)
    → saids (record s { version = v }) ≡ scsi_line v ∷ later_lines s
same_saids v p s = ap (λ (xs : List Said). scsi_line v ∷ (xs ++ end_line ∷ [])) (same_body v p s)

first_line : (v : ℕ)
    → said_after nothing (scsi_line v) ≡ Ok (record (as_text v nothing) { last = kind_of (scsi_line v) })
unfolding said_after added
first_line v = refl

-- ---- the text is as long

scsi_length : (v : ℕ) → length (scsi_text v) ≡ 6
scsi_length v = go (v == 3) (v == 2) where
  go : (p q : Bool) → length (cond p (codes "scsi 3") (cond q (codes "scsi 2") (codes "scsi 1"))) ≡ 6
  go true q = refl
  go false true = refl
  go false false = refl

text_length : (v : ℕ) → (v == 1) ≡ false → (s : ScenarioValue)
    → length (text_of (record s { version = v })) ≡ length (flat_map said_line (later_lines s)) + 7
text_length v p s =
    let first = scsi_length v in
    ap (λ (xs : List Said). length (flat_map said_line xs)) (same_saids v p s) ∙ omega (
      arith,
      length-append (scsi_text v ++ 10 ∷ []) (flat_map said_line (later_lines s)),
      length-append (scsi_text v) (10 ∷ []),
      first,
    )

-- ---- both texts

pub obeys_as : (v w : ℕ) → (v == 1) ≡ false → (w == 1) ≡ false → IsVersion w → (s : ScenarioValue) → s.tapes ≡ []
    → Obeys (record s { version = v }) → Obeys (record s { version = w })
obeys_as v w p q version s tapes h =
    let loads : s.loads ≡ [] = no_loads (record s { version = v }) h tapes in
    let b = bind_ok (built nothing (saids (record s { version = v }))) (λ (d : Progress). Ok d.scenario)
    (record s { version = v }) h.lawful in
    let first : ℕ → Progress = λ n. record (as_text n nothing) { last = kind_of (scsi_line n) } in
    let begun : (n : ℕ) → (n == 1) ≡ false
    → built nothing (saids (record s { version = n })) ≡ built (first n) (later_lines s) = λ n one.
    ap (built nothing) (same_saids n one s)
    ∙ ap (λ (r : Result Progress ℕ). r >>= λ d. built d (later_lines s)) (first_line n) in
    let rest : built (first w) (later_lines s) ≡ Ok (as_text w b.0) = shared_built v w (later_lines s) (first v) b.0
    (later_shared v w q s tapes loads) refl (sym (begun v p) ∙ b.1) in
    let limit = h.limit in
    let old = text_length v p s in
    let new = text_length w q s in
    record {
      version = version;
      lawful = ap told_scenario (begun w q ∙ rest)
          ∙ ap (λ (t : ScenarioValue). let r : Result ScenarioValue ℕ = Ok (record t { version = w }) in r)
          (ok_is (b.0).scenario (record s { version = v }) b.2);
      fills = h.fills;
      loads = h.loads;
      commands = h.commands;
      limit = omega (arith, limit, old, new);
    }
