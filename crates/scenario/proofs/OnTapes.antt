-- A load is for a tape, so where there is no tape there is no load.
use Rattle.std.proofs.Common.{◌≡◌, List, [], ◌∷◌, ◌++◌, Option, Some, None, Ok}
use Rattle.std.proofs.Common.{refl, ap, subst}
use Rattle.scenario.specs.declared.value.TapeDef.{TapeDef}
use Rattle.scenario.specs.declared.value.LoadDef.{LoadDef}
use Rattle.scenario.specs.Value.{ScenarioValue}
use Rattle.scenario.specs.Lookups.{tape_of}
use Rattle.scenario.specs.Needs.{need_of, sent_of}
use Rattle.scenario.specs.Forms.{Said, LoadSaid, scsi_line, initiator_line, target_line, unit_line, fill_line}
use Rattle.scenario.specs.Forms.{tape_line, load_line, cmd_line, abort_line, reset_line, fault_line, end_line}
use Rattle.scenario.specs.Reading.{Progress, found, in_8, host_def, target_def, unit_def, fill_def, tape_def, load_def}
use Rattle.scenario.specs.Reading.{full_cmd_def, abort_def, reset_def, fault_def, added, said_after, nothing}
use Rattle.scenario.specs.Writing.{saids, built, Obeys}
use Rattle.scenario.proofs.Steps.{bind_ok, ok_is}
use Rattle.scenario.proofs.Lawful.{taken}

-- Its loads are for its tapes.
abbrev AreForTapes : ScenarioValue → Type 0
AreForTapes s = s.tapes ≡ [] → s.loads ≡ []

not_none : {A : Type 0} (x : A) (xs : List A) → x ∷ xs ≡ [] → ⊥
not_none x xs e = absurd cc

some_more : {A : Type 0} (xs : List A) (x : A) → xs ++ x ∷ [] ≡ [] → ⊥
some_more [] x e = not_none x [] e
some_more (y ∷ xs) x e = not_none y (xs ++ x ∷ []) e

found_none : (o : Option TapeDef) (t : TapeDef) → o ≡ None → found o ≡ Ok t → ⊥
found_none None t none e = absurd cc
found_none (Some u) t none e = absurd cc

-- A load finds its tape.
no_load : (s : ScenarioValue) (f : LoadSaid) (l : LoadDef) → load_def s f ≡ Ok l → s.tapes ≡ [] → ⊥
unfolding load_def
no_load s f l e none =
    let t = bind_ok (in_8 f.target) _ l e in
    let u = bind_ok (in_8 f.unit) _ l t.2 in
    let w = bind_ok (found (tape_of s t.0 u.0)) _ l u.2 in
    found_none (tape_of s t.0 u.0) w.0
    (ap (λ (tapes : List TapeDef). tape_of (record s { tapes = tapes }) t.0 u.0) none) w.1

for_tapes : (d z : Progress) (x : Said) → added d x ≡ Ok z → AreForTapes d.scenario → AreForTapes z.scenario
unfolding added need_of sent_of
for_tapes d z (scsi_line v) e h = subst (λ (p : Progress). AreForTapes p.scenario) (ok_is _ z e) h
for_tapes d z (initiator_line f) e h =
    let b = bind_ok (host_def d.scenario f) _ z e in
    subst (λ (p : Progress). AreForTapes p.scenario) (ok_is _ z b.2) h
for_tapes d z (target_line f) e h =
    let b = bind_ok (target_def d.scenario f) _ z e in
    subst (λ (p : Progress). AreForTapes p.scenario) (ok_is _ z b.2) h
for_tapes d z (unit_line f) e h =
    let b = bind_ok (unit_def d.scenario f) _ z e in
    subst (λ (p : Progress). AreForTapes p.scenario) (ok_is _ z b.2) h
for_tapes d z (fill_line f) e h =
    let b = bind_ok (fill_def d.scenario f) _ z e in
    subst (λ (p : Progress). AreForTapes p.scenario) (ok_is _ z b.2) h
for_tapes d z (tape_line f) e h =
    let b = bind_ok (tape_def d.scenario f) _ z e in
    subst (λ (p : Progress). AreForTapes p.scenario) (ok_is _ z b.2)
    (λ none. absurd (some_more d.scenario.tapes b.0 none))
for_tapes d z (load_line f) e h =
    let b = bind_ok (load_def d.scenario f) _ z e in
    subst (λ (p : Progress). AreForTapes p.scenario) (ok_is _ z b.2)
    (λ none. absurd (no_load d.scenario f b.0 b.1 none))
for_tapes d z (cmd_line f) e h =
    let b = bind_ok (full_cmd_def d.scenario d.needs f) _ z e in
    subst (λ (p : Progress). AreForTapes p.scenario) (ok_is _ z b.2) h
for_tapes d z (abort_line f) e h =
    let b = bind_ok (abort_def d.scenario f) _ z e in
    subst (λ (p : Progress). AreForTapes p.scenario) (ok_is _ z b.2) h
for_tapes d z (reset_line f) e h =
    let b = bind_ok (reset_def d.scenario f) _ z e in
    subst (λ (p : Progress). AreForTapes p.scenario) (ok_is _ z b.2) h
for_tapes d z (fault_line f) e h =
    let b = bind_ok (fault_def d.scenario f) _ z e in
    subst (λ (p : Progress). AreForTapes p.scenario) (ok_is _ z b.2) h
for_tapes d z end_line e h = subst (λ (p : Progress). AreForTapes p.scenario) (ok_is d z e) h

all_for_tapes : (d z : Progress) (xs : List Said) → built d xs ≡ Ok z → AreForTapes d.scenario → AreForTapes z.scenario
all_for_tapes d z [] e h = subst (λ (p : Progress). AreForTapes p.scenario) (ok_is d z e) h
all_for_tapes d z (x ∷ xs) e h =
    let b = bind_ok (said_after d x) _ z e in
    let t = taken d b.0 x b.1 in
    let one : AreForTapes (b.0).scenario = subst (λ (p : Progress). AreForTapes p.scenario) t.is
    (for_tapes d t.before x t.step h) in
    all_for_tapes b.0 z xs b.2 one

pub no_loads : (s : ScenarioValue) → Obeys s → s.tapes ≡ [] → s.loads ≡ []
no_loads s o =
    let b = bind_ok (built nothing (saids s)) _ s o.lawful in
    subst AreForTapes (ok_is (b.0).scenario s b.2) (all_for_tapes nothing b.0 (saids s) b.1 (λ none. refl))
