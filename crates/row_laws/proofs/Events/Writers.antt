-- The processes of the units of the plain disk array that write: those that wait have made no run, and the current one
-- last sent its unit a byte once it has; as events come, as a byte of its data comes, and as it makes a run.
use Rattle.row_laws.proofs
use proofs.Names.{ℕ, zero, suc, ◌≡◌, ◌⊎◌, inl, inr, Bool, true, false, not, ◌&&◌, ◌==◌, ◌∙◌, List, [], ◌∷◌, ◌++◌}
use proofs.Names.{Option, Some, None, refl, sym, ap, subst, eqb-true, same_Some, if◌then◌else◌, is_some, wrong, wrong'}
use proofs.Names.{eq_self, ProcId, ScenarioValue, UnitDef, Reply, without_process, choice, chosen_place, entries_of}
use proofs.Names.{process_at, process_at_if, Process, process_of, same_id, IsOwn, AllOwn, IsOwnUnit, AllOwnUnits}
use proofs.Names.{AreApart, RunningProcess, UnitState, Nexus, Array, is_held, unit_state_at, has_no_current}
use proofs.Names.{with_current, unit_after_choice, starting_units, ProcessProgress, progress_in, is_writing, Writer}
use proofs.Names.{writer_of, id_is, self_id, AllP, Runs, AllUnits, IsUnrun, IsLastWriter, IsOther, IsWrittenUnit}
use proofs.{Names.{IsEmptyUnit}, Common.{Impossible.{none_some, some_none}, Tests.{by_bool}}, Events.Units.{StaysSo}}
use proofs.Events.Units.{MayWait}
use Rattle.due_model.specs.array_model.specs.Steps

-- ---- those that wait

pub append_all : (q : Process → Type 0) (waiting : List Process) (c : Process) → AllP q waiting → q c
    → AllP q (waiting ++ c ∷ [])
append_all q [] c h g = (g, tt)
append_all q (w ∷ waiting) c h g = (h.0, append_all q waiting c h.1 g)

pub without_all : (q : Process → Type 0) (waiting : List Process) (id : ProcId) → AllP q waiting
    → AllP q (without_process waiting id)
without_all q [] id h = tt
without_all q (c ∷ waiting) id h = go (same_id c.id id) (without_all q waiting id h.1)
  where
    go : (x : Bool) → AllP q (without_process waiting id)
        → AllP q (if x then without_process waiting id else c ∷ without_process waiting id)
    go true e = e
    go false e = (h.0, e)

without_other : (waiting : List Process) (r : RunningProcess) → AllP (IsOther r) (without_process waiting r.process.id)
without_other [] r = tt
without_other (c ∷ waiting) r = go (same_id c.id r.process.id) refl (without_other waiting r)
  where
    go : (x : Bool) → same_id c.id r.process.id ≡ x → AllP (IsOther r) (without_process waiting r.process.id) → AllP
        (IsOther r) (if x then without_process waiting r.process.id else c ∷ without_process waiting r.process.id)
    go true e h = h
    go false e h = (e, h)

pub kept_all : (q : Process → Type 0) (drops : Process → Bool) (waiting : List Process) → AllP q waiting
    → AllP q (Steps.kept_processes drops waiting)
kept_all q drops [] h = tt
kept_all q drops (c ∷ waiting) h = go (drops c) (kept_all q drops waiting h.1)
  where
    go : (x : Bool) → AllP q (Steps.kept_processes drops waiting)
        → AllP q (if x then Steps.kept_processes drops waiting else c ∷ Steps.kept_processes drops waiting)
    go true e = e
    go false e = (h.0, e)

pub at_all : (q : Process → Type 0) (waiting : List Process) (place : ℕ) (c : Process) → AllP q waiting
    → process_at waiting place ≡ Some c → q c
at_all q [] place c h e = none_some c e
at_all q (w ∷ waiting) zero c h e = subst q (same_Some w c e) h.0
at_all q (w ∷ waiting) (suc place) c h e = at_all q waiting place c h.1 e

pub choice_all : (q : Process → Type 0) (u : UnitState) (c : Process) → AllP q u.waiting
    → choice u.pick u.waiting ≡ Some c → q c
choice_all q u c h e = go (chosen_place u.pick (entries_of u.waiting)) e
  where
    go : (x : Option ℕ) → process_at_if u.waiting x ≡ Some c → q c
    go None f = none_some c f
    go (Some place) f = at_all q u.waiting place c h f

-- ---- of a unit: two of its parts, of which what waits gives what is current

abbrev Parts : (Process → Type 0) → (RunningProcess → Type 0) → UnitState → Type 0
Parts w c u = AllP w u.waiting × Runs c u.current

replied_part : (c : RunningProcess → Type 0) (o : Option RunningProcess) (id : ProcId) (reply : Reply)
    → ((r : RunningProcess) → c r → c (record r { reply = Some reply })) → Runs c o
    → Runs c (Steps.current_with_reply o id reply)
replied_part c None id reply f h = tt
replied_part c (Some r) id reply f h = go (same_id r.process.id id)
  where
    go : (x : Bool) → Runs c (if x then Some (record r { reply = Some reply }) else Some r)
    go true = f r h
    go false = h

left_part : (c : RunningProcess → Type 0) (o : Option RunningProcess) (x : Bool) → Runs c o
    → Runs c (if x then None else o)
left_part c o true h = tt
left_part c o false h = h

kept_part : (c : RunningProcess → Type 0) (o : Option RunningProcess) (drops : Process → Bool) → Runs c o
    → Runs c (Steps.kept_running drops o)
kept_part c None drops h = tt
kept_part c (Some r) drops h =
    elim (drops r.process) as (λ x. Runs c (if x then None else Some r)) [ true ↦ tt | false ↦ h ]

map_part : (c d : RunningProcess → Type 0) (o : Option RunningProcess) → ((r : RunningProcess) → c r → d r) → Runs c o
    → Runs d o
map_part c d None f h = tt
map_part c d (Some r) f h = f r h

pub map_all : (q r : Process → Type 0) (waiting : List Process) → ((c : Process) → q c → r c) → AllP q waiting
    → AllP r waiting
map_all q r [] f h = tt
map_all q r (c ∷ waiting) f h = (f c h.0, map_all q r waiting f h.1)

-- ---- what is kept by events

pub written_stays : (made : List ProcessProgress) (all : List Writer) → StaysSo (IsWrittenUnit made all)
written_stays made all = record {
  contents = λ u c h. record { waits = h.waits; current = h.current; apart = h.apart };
  replied = λ u id reply h. record {
    waits = h.waits;
    current = replied_part (IsLastWriter made all) u.current id reply (λ r k w e some. some_none reply e) h.current;
    apart = replied_part (λ r. AllP (IsOther r) u.waiting) u.current id reply (λ r k. k) h.apart;
  };
  without = λ u id h. record {
    waits = without_all (IsUnrun made) u.waiting id h.waits;
    current = left_part (IsLastWriter made all) u.current (is_some (Steps.running_if u.current id)) h.current;
    apart = left_part (λ r. AllP (IsOther r) (without_process u.waiting id)) u.current
        (is_some (Steps.running_if u.current id))
        (map_part (λ r. AllP (IsOther r) u.waiting) (λ r. AllP (IsOther r) (without_process u.waiting id)) u.current
        (λ r k. without_all (IsOther r) u.waiting id k) h.apart);
  };
  kept = λ u drops h. record {
    waits = kept_all (IsUnrun made) drops u.waiting h.waits;
    current = kept_part (IsLastWriter made all) u.current drops h.current;
    apart = kept_part (λ r. AllP (IsOther r) (Steps.kept_processes drops u.waiting)) u.current drops
        (map_part (λ r. AllP (IsOther r) u.waiting) (λ r. AllP (IsOther r) (Steps.kept_processes drops u.waiting))
        u.current (λ r k. kept_all (IsOther r) drops u.waiting k) h.apart);
  };
  chosen = chosen;
}
  where
    none_yet : (m : ℕ) → m ≡ 0 → (m == 0) ≡ false → ⊥
    none_yet m e f = wrong (sym (ap (λ (x : ℕ). x == 0) e) ∙ f)

    chosen : (u : UnitState) (holds : List Nexus) → IsWrittenUnit made all u
        → IsWrittenUnit made all (unit_after_choice holds u)
    chosen u holds h =
        go (has_no_current u.current && not (is_held holds u.target u.unit)) (choice u.pick u.waiting) refl
      where
        go : (x : Bool) (t : Option Process) → choice u.pick u.waiting ≡ t
            → IsWrittenUnit made all (if x then with_current u t else u)
        go true None z = h
        go true (Some t) z = record {
          waits = without_all (IsUnrun made) u.waiting t.id h.waits;
          current = λ w e some. absurd
              (none_yet (progress_in made t.id).runs (choice_all (IsUnrun made) u t h.waits z w) some);
          apart = without_other u.waiting (record { process = t; reply = None });
        }
        go false t z = h

pub empty_stays : StaysSo IsEmptyUnit
empty_stays = record {
  contents = λ u c h. h;
  replied = λ u id reply h. (h.0, replied_part (λ r. ⊥) u.current id reply (λ r k. k) h.1);
  without = λ u id h. (
    without_all (λ t. ⊥) u.waiting id h.0,
    left_part (λ r. ⊥) u.current (is_some (Steps.running_if u.current id)) h.1,
  );
  kept = λ u drops h. (kept_all (λ t. ⊥) drops u.waiting h.0, kept_part (λ r. ⊥) u.current drops h.1);
  chosen = chosen;
}
  where
    chosen : (u : UnitState) (holds : List Nexus) → IsEmptyUnit u → IsEmptyUnit (unit_after_choice holds u)
    chosen u holds h =
        go (has_no_current u.current && not (is_held holds u.target u.unit)) (choice u.pick u.waiting) refl
      where
        go : (x : Bool) (t : Option Process) → choice u.pick u.waiting ≡ t
            → IsEmptyUnit (if x then with_current u t else u)
        go true None z = h
        go true (Some t) z = absurd (choice_all (λ w. ⊥) u t h.0 z)
        go false t z = h

-- ---- no process stands there

none_waits : (q : Process → Type 0) (waiting : List Process) → AllP (λ p. ⊥) waiting → AllP q waiting
none_waits q waiting h = map_all (λ p. ⊥) q waiting (λ p k. absurd k) h

none_runs : (c : RunningProcess → Type 0) (o : Option RunningProcess) → Runs (λ r. ⊥) o → Runs c o
none_runs c o h = map_part (λ r. ⊥) c o (λ r k. absurd k) h

pub empty_written : (made : List ProcessProgress) (all : List Writer) (units : List UnitState)
    → AllUnits IsEmptyUnit units → AllUnits (IsWrittenUnit made all) units
empty_written made all [] h = tt
empty_written made all (u ∷ units) h = (
  record {
    waits = none_waits (IsUnrun made) u.waiting h.0.0;
    current = none_runs (IsLastWriter made all) u.current h.0.1;
    apart = none_runs (λ r. AllP (IsOther r) u.waiting) u.current h.0.1;
  },
  empty_written made all units h.1,
)

pub start_empty : (s : ScenarioValue) (units : List UnitDef) → AllUnits IsEmptyUnit (starting_units s units)
start_empty s [] = tt
start_empty s (u ∷ units) = ((tt, tt), start_empty s units)

dropped_waits : (waiting : List Process) → AllP (λ c. ⊥) (Steps.kept_processes (λ c. true) waiting)
dropped_waits [] = tt
dropped_waits (c ∷ waiting) = dropped_waits waiting

dropped_runs : (o : Option RunningProcess) → Runs (λ r. ⊥) (Steps.kept_running (λ p. true) o)
dropped_runs None = tt
dropped_runs (Some r) = tt

pub dropped_empty : (units : List UnitState) → AllUnits IsEmptyUnit (Steps.kept_units (λ p. true) units)
dropped_empty [] = tt
dropped_empty (u ∷ units) = ((dropped_waits u.waiting, dropped_runs u.current), dropped_empty units)

-- ---- a command arrives

pub none_current : (units : List UnitState) (id : ProcId) (t m : ℕ) (u : UnitState) → Steps.running_in units id ≡ None
    → unit_state_at units t m ≡ Some u → Steps.running_if u.current id ≡ None
none_current [] id t m u e f = some_none u (sym f)
none_current (v ∷ units) id t m u e f =
    by (Steps.running_if v.current id) refl e (λ h g. none_current units id t m u h g)
  where
    at : (x : Bool) → Steps.running_if v.current id ≡ None → (if x then Some v else unit_state_at units t m) ≡ Some u
        → (unit_state_at units t m ≡ Some u → Steps.running_if u.current id ≡ None)
        → Steps.running_if u.current id ≡ None
    at true z g rest = ap (λ (w : UnitState). Steps.running_if w.current id) (sym (same_Some v u g)) ∙ z
    at false z g rest = rest g

    by : (o : Option RunningProcess) → Steps.running_if v.current id ≡ o
        → (if is_some o then o else Steps.running_in units id) ≡ None
        → (Steps.running_in units id ≡ None → unit_state_at units t m ≡ Some u → Steps.running_if u.current id ≡ None)
        → Steps.running_if u.current id ≡ None
    by None z h rest = at (v.target == t && v.unit == m) z f (λ g. rest h g)
    by (Some r) z h rest = none_some r (sym h)

pub may_wait : (s : ScenarioValue) (made : List ProcessProgress) (all : List Writer) (a : Array) (id : ProcId)
    → Steps.running_in a.units id ≡ None
    → ((c : Process) → process_of s id ≡ Some c → (c.id ≡ id) × ((progress_in made c.id).runs ≡ 0))
    → MayWait s (IsWrittenUnit made all) a id
may_wait s made all a id none unrun c u own at h = record {
  waits = append_all (IsUnrun made) u.waiting c h.waits (λ w. (unrun c own).1);
  current = h.current;
  apart = by u.current (none_current a.units id c.target c.unit u none at) h.apart;
}
  where
    same : (r : RunningProcess) → (x : Bool) → same_id r.process.id id ≡ x → (if x then Some r else None) ≡ None
        → IsOther r c
    same r true e z = none_some r (sym z)
    same r false e z = by_bool (same_id c.id r.process.id)
        (λ f. let is : r.process.id ≡ id = sym (id_is c.id r.process.id f) ∙ (unrun c own).0 in
        wrong (sym f ∙ (λ i. same_id ((unrun c own).0 i) (r.process.id)) ∙ (λ i. same_id (sym is i) r.process.id)
        ∙ (λ i. same_id r.process.id (is i)) ∙ e)) (λ f. f)

    by : (o : Option RunningProcess) → Steps.running_if o id ≡ None → Runs (λ r. AllP (IsOther r) u.waiting) o
        → Runs (λ r. AllP (IsOther r) (u.waiting ++ c ∷ [])) o
    by None z f = tt
    by (Some r) z f = append_all (IsOther r) u.waiting c f (same r (same_id r.process.id id) refl z)

-- ---- the unit in which a process runs

pub record HoldsIt (u : UnitState) (c : Process) : Type 0 where
  pub running : RunningProcess
  pub current_is : u.current ≡ Some running
  pub process_is : running.process ≡ c

abbrev pub IsElsewhere : UnitState → Process → Type 0
IsElsewhere u c = (u.target == c.target && u.unit == c.unit) ≡ false

abbrev pub Stands : Process → UnitState → Type 0
Stands c u = HoldsIt u c ⊎ IsElsewhere u c

holds_it : (s : ScenarioValue) (u : UnitState) (c : Process) (r : RunningProcess) → IsOwnUnit s u
    → process_of s c.id ≡ Some c → Steps.running_if u.current c.id ≡ Some r → HoldsIt u c
holds_it s u c r own is e = go u.current refl e own.current
  where
    go : (o : Option RunningProcess) → u.current ≡ o → Steps.running_if o c.id ≡ Some r
        → (let t : ℕ = u.target in let m : ℕ = u.unit in Runs (λ x. IsOwn s t m x.process) o) → HoldsIt u c
    go None z y h = none_some r y
    go (Some x) z y h = by (same_id x.process.id c.id) refl y
      where
        by : (q : Bool) → same_id x.process.id c.id ≡ q → (if q then Some x else None) ≡ Some r → HoldsIt u c
        by true f g = record {
          running = x;
          current_is = z;
          process_is = same_Some x.process c (sym h.is ∙ ap (process_of s) (id_is x.process.id c.id f) ∙ is);
        }
        by false f g = none_some r g

pub none_at : (units : List UnitState) (c : Process) → unit_state_at units c.target c.unit ≡ None
    → AllUnits (λ u. IsElsewhere u c) units
none_at [] c e = tt
none_at (u ∷ units) c e = go (u.target == c.target && u.unit == c.unit) refl e (λ h. none_at units c h)
  where
    go : (x : Bool) → (u.target == c.target && u.unit == c.unit) ≡ x
        → (if x then Some u else unit_state_at units c.target c.unit) ≡ None
        → (unit_state_at units c.target c.unit ≡ None → AllUnits (λ v. IsElsewhere v c) units)
        → AllUnits (λ v. IsElsewhere v c) (u ∷ units)
    go true z h rest = some_none u h
    go false z h rest = (z, rest h)

pub map_units : (q r : UnitState → Type 0) (units : List UnitState) → ((u : UnitState) → q u → r u) → AllUnits q units
    → AllUnits r units
map_units q r [] f h = tt
map_units q r (u ∷ units) f h = (f u h.0, map_units q r units f h.1)

-- It is that of the process.
own_place : (s : ScenarioValue) (u : UnitState) (c : Process) → IsOwnUnit s u → HoldsIt u c
    → (u.target ≡ c.target) × (u.unit ≡ c.unit)
own_place s u c own h = go u.current h.current_is own.current
  where
    go : (o : Option RunningProcess) → o ≡ Some h.running
        → (let t : ℕ = u.target in let m : ℕ = u.unit in Runs (λ x. IsOwn s t m x.process) o)
        → (u.target ≡ c.target) × (u.unit ≡ c.unit)
    go None z e = none_some h.running z
    go (Some x) z e =
        let is : x.process ≡ c = ap (λ (y : RunningProcess). y.process) (same_Some x h.running z) ∙ h.process_is in
        (sym e.target_is ∙ ap (λ (y : Process). y.target) is, sym e.unit_is ∙ ap (λ (y : Process). y.unit) is)

placed : (u : UnitState) (c : Process) → (u.target ≡ c.target) × (u.unit ≡ c.unit)
    → (u.target == c.target && u.unit == c.unit) ≡ true
placed u c e =
    (λ i. e.0 i == c.target && e.1 i == c.unit) ∙ (λ i. eq_self c.target i && c.unit == c.unit) ∙ eq_self c.unit

never_there : {A : Type 0} (s : ScenarioValue) (units : List UnitState) (c : Process) (r : RunningProcess)
    → AllOwnUnits s units → process_of s c.id ≡ Some c → Steps.running_in units c.id ≡ Some r
    → unit_state_at units c.target c.unit ≡ None → A
never_there s [] c r own is e none = none_some r e
never_there {A} s (u ∷ units) c r own is e none =
    by (Steps.running_if u.current c.id) refl e (λ z f. never_there s units c r own.1 is z f)
  where
    at : HoldsIt u c → A
    at h = some_none u
        (sym ((λ i. if placed u c (own_place s u c own.0 h) i then Some u else unit_state_at units c.target c.unit))
        ∙ none)

    later : (x : Bool) → (if x then Some u else unit_state_at units c.target c.unit) ≡ None
        → (unit_state_at units c.target c.unit ≡ None → A) → A
    later true f rest = some_none u f
    later false f rest = rest f

    by : (o : Option RunningProcess) → Steps.running_if u.current c.id ≡ o
        → (if is_some o then o else Steps.running_in units c.id) ≡ Some r
        → (Steps.running_in units c.id ≡ Some r → unit_state_at units c.target c.unit ≡ None → A) → A
    by None z f rest = later (u.target == c.target && u.unit == c.unit) none (λ g. rest f g)
    by (Some x) z f rest = at (holds_it s u c x own.0 is z)

-- One unit holds the process that runs, and the others are elsewhere.
pub stands_each : (s : ScenarioValue) (units : List UnitState) (c : Process) (r : RunningProcess) → AllOwnUnits s units
    → AreApart units → process_of s c.id ≡ Some c → Steps.running_in units c.id ≡ Some r → AllUnits (Stands c) units
stands_each s [] c r own apart is e = tt
stands_each s (u ∷ units) c r own apart is e =
    by (Steps.running_if u.current c.id) refl e (λ g. stands_each s units c r own.1 apart.1 is g)
  where
    there : HoldsIt u c → AllUnits (Stands c) (u ∷ units)
    there h =
        let place = own_place s u c own.0 h in
        let gone : unit_state_at units c.target c.unit ≡ None =
        (λ i. unit_state_at units (sym place.0 i) (sym place.1 i)) ∙ apart.0 in
        (inl h, map_units (λ v. IsElsewhere v c) (Stands c) units (λ v g. inr g) (none_at units c gone))

    later : (x : Bool) → (u.target == c.target && u.unit == c.unit) ≡ x → Steps.running_in units c.id ≡ Some r
        → AllUnits (Stands c) units → AllUnits (Stands c) (u ∷ units)
    later false z g rest = (inr z, rest)
    later true z g rest = never_there s units c r own.1 is g (gone z)
      where
        gone : (u.target == c.target && u.unit == c.unit) ≡ true → unit_state_at units c.target c.unit ≡ None
        gone f =
            let both = two (u.target == c.target) (u.unit == c.unit) f in
            (λ i. unit_state_at units (eqb-true c.target u.target (same_number u.target c.target both.0) i)
            (eqb-true c.unit u.unit (same_number u.unit c.unit both.1) i))
            ∙ apart.0
          where
            two : (a b : Bool) → (a && b) ≡ true → (a ≡ true) × (b ≡ true)
            two true b z = (refl, z)
            two false b z = wrong' z

            same_number : (a b : ℕ) → (a == b) ≡ true → (b == a) ≡ true
            same_number a b z = (λ i. b == eqb-true a b z i) ∙ eq_self b

    by : (o : Option RunningProcess) → Steps.running_if u.current c.id ≡ o
        → (if is_some o then o else Steps.running_in units c.id) ≡ Some r
        → (Steps.running_in units c.id ≡ Some r → AllUnits (Stands c) units) → AllUnits (Stands c) (u ∷ units)
    by None z g rest = later (u.target == c.target && u.unit == c.unit) refl g (rest g)
    by (Some x) z g rest = there (holds_it s u c x own.0 is z)

-- ---- what a row counts and adds

-- Of the other processes that write, and at other units, nothing changes.
pub record Moves (made next : List ProcessProgress) (all more : List Writer) (c : Process) : Type 0 where
  pub others : (id : ProcId) → (id ≡ c.id → ⊥) → (progress_in next id).runs ≡ (progress_in made id).runs
  pub elsewhere : (target unit : ℕ) → (c.target == target && c.unit == unit) ≡ false
      → writer_of more target unit ≡ writer_of all target unit
  pub own : ((progress_in next c.id).runs == 0) ≡ false → ((progress_in made c.id).runs == 0) ≡ false
      → writer_of all c.target c.unit ≡ Some c.id → writer_of more c.target c.unit ≡ Some c.id
  pub first : ((progress_in next c.id).runs == 0) ≡ false → ((progress_in made c.id).runs == 0) ≡ true
      → writer_of more c.target c.unit ≡ Some c.id

is_other : (s : ScenarioValue) (u : UnitState) (c q : Process) → IsOwn s u.target u.unit q → IsElsewhere u c
    → process_of s c.id ≡ Some c → q.id ≡ c.id → ⊥
is_other s u c q own away is e =
    let same : q ≡ c = same_Some q c (sym own.is ∙ ap (process_of s) e ∙ is) in
    wrong (sym (placed u c (
      sym own.target_is ∙ ap (λ (x : Process). x.target) same,
      sym own.unit_is ∙ ap (λ (x : Process). x.unit) same,
    )) ∙ away)

waits_own :
    (s : ScenarioValue) (made next : List ProcessProgress) (t m : ℕ) (waiting : List Process) → AllOwn s t m waiting
    → ((q : Process) → IsOwn s t m q → (progress_in next q.id).runs ≡ (progress_in made q.id).runs)
    → AllP (IsUnrun made) waiting → AllP (IsUnrun next) waiting
waits_own s made next t m [] own f h = tt
waits_own s made next t m (q ∷ waiting) own f h =
    (λ w. f q own.0 ∙ h.0 w, waits_own s made next t m waiting own.1 f h.1)

waits_others : (s : ScenarioValue) (made next : List ProcessProgress) (r : RunningProcess) (waiting : List Process)
    → ((id : ProcId) → (id ≡ r.process.id → ⊥) → (progress_in next id).runs ≡ (progress_in made id).runs)
    → AllP (IsOther r) waiting → AllP (IsUnrun made) waiting → AllP (IsUnrun next) waiting
waits_others s made next r [] f g h = tt
waits_others s made next r (q ∷ waiting) f g h = (
  λ w. f q.id (λ e. wrong (sym ((λ i. same_id (e i) r.process.id) ∙ self_id r.process.id) ∙ g.0)) ∙ h.0 w,
  waits_others s made next r waiting f g.1 h.1,
)

moved_unit :
    (s : ScenarioValue) (made next : List ProcessProgress) (all more : List Writer) (l : Process) (u : UnitState)
    → process_of s l.id ≡ Some l → Moves made next all more l → IsOwnUnit s u → Stands l u → IsWrittenUnit made all u
    → IsWrittenUnit next more u
moved_unit s made next all more l u is m own (inl held) h = record {
  waits = by u.current held.current_is h.apart;
  current = now u.current held.current_is h.current;
  apart = h.apart;
}
  where
    same : (x : RunningProcess) → x ≡ held.running → x.process ≡ l
    same x e = ap (λ (y : RunningProcess). y.process) e ∙ held.process_is

    by : (o : Option RunningProcess) → o ≡ Some held.running → Runs (λ r. AllP (IsOther r) u.waiting) o
        → AllP (IsUnrun next) u.waiting
    by None e k = none_some held.running e
    by (Some x) e k = waits_others s made next x u.waiting (λ id f. m.others id
        (λ z. f (z ∙ ap (λ (y : Process). y.id) (sym (same x (same_Some x held.running e)))))) k h.waits

    now : (o : Option RunningProcess) → o ≡ Some held.running → Runs (IsLastWriter made all) o
        → Runs (IsLastWriter next more) o
    now None e k = none_some held.running e
    now (Some x) e k = λ w free some.
        let z = same x (same_Some x held.running e) in
        (λ i. writer_of more (z i).target (z i).unit) ∙ go w free some z ((progress_in made l.id).runs == 0) refl
        ∙ (λ i. Some (sym z i).id)
      where
        go : is_writing x.process ≡ true → x.reply ≡ None → ((progress_in next x.process.id).runs == 0) ≡ false
            → x.process ≡ l → (q : Bool) → ((progress_in made l.id).runs == 0) ≡ q
            → writer_of more l.target l.unit ≡ Some l.id
        go w free some z true f = m.first ((λ i. (progress_in next (sym z i).id).runs == 0) ∙ some) f
        go w free some z false f =
            let was = k w free ((λ i. (progress_in made (z i).id).runs == 0) ∙ f) in
            m.own ((λ i. (progress_in next (sym z i).id).runs == 0) ∙ some) f
            ((λ i. writer_of all (sym z i).target (sym z i).unit) ∙ was ∙ (λ i. Some (z i).id))
moved_unit s made next all more l u is m own (inr away) h = record {
  waits = waits_own s made next u.target u.unit u.waiting own.waiting
      (λ q k. m.others q.id (is_other s u l q k away is)) h.waits;
  current = now u.current own.current h.current;
  apart = h.apart;
}
  where
    now : (o : Option RunningProcess)
        → (let t : ℕ = u.target in let v : ℕ = u.unit in Runs (λ x. IsOwn s t v x.process) o)
        → Runs (IsLastWriter made all) o → Runs (IsLastWriter next more) o
    now None e k = tt
    now (Some x) e k = λ w free some.
        m.elsewhere x.process.target x.process.unit ((λ i. l.target == e.target_is i && l.unit == e.unit_is i)
        ∙ turned (l.target) (u.target) (l.unit) (u.unit) away)
        ∙ k w free ((λ i. sym (m.others x.process.id (is_other s u l x.process e away is)) i == 0) ∙ some)
      where
        turned : (a b c d : ℕ) → (b == a && d == c) ≡ false → (a == b && c == d) ≡ false
        turned a b c d z = go (a == b) (c == d) refl refl
          where
            go : (f g : Bool) → (a == b) ≡ f → (c == d) ≡ g → (a == b && c == d) ≡ false
            go false g ef eg = λ i. ef i && c == d
            go true false ef eg = (λ i. ef i && c == d) ∙ eg
            go true true ef eg = wrong (sym
                ((λ i. b == eqb-true a b ef i && d == eqb-true c d eg i) ∙ (λ i. eq_self b i && d == d) ∙ eq_self d)
                ∙ z)

pub moved_units : (s : ScenarioValue) (made next : List ProcessProgress) (all more : List Writer) (c : Process)
    (units : List UnitState) → process_of s c.id ≡ Some c → Moves made next all more c → AllOwnUnits s units
    → AllUnits (Stands c) units → AllUnits (IsWrittenUnit made all) units → AllUnits (IsWrittenUnit next more) units
moved_units s made next all more c [] is m own st h = tt
moved_units s made next all more c (u ∷ units) is m own st h = (
  moved_unit s made next all more c u is m own.0 st.0 h.0,
  moved_units s made next all more c units is m own.1 st.1 h.1,
)

-- Of no process that writes.
same_unit : (s : ScenarioValue) (made next : List ProcessProgress) (all : List Writer) (u : UnitState) → ((q : Process)
    → process_of s q.id ≡ Some q → is_writing q ≡ true → (progress_in next q.id).runs ≡ (progress_in made q.id).runs)
    → IsOwnUnit s u → IsWrittenUnit made all u → IsWrittenUnit next all u
same_unit s made next all u f own h =
    record { waits = by u.waiting own.waiting h.waits; current = now u.current own.current h.current; apart = h.apart }
  where
    by : (waiting : List Process) → (let t : ℕ = u.target in let m : ℕ = u.unit in AllOwn s t m waiting)
        → AllP (IsUnrun made) waiting → AllP (IsUnrun next) waiting
    by [] o g = tt
    by (q ∷ waiting) o g = (λ w. f q o.0.is w ∙ g.0 w, by waiting o.1 g.1)

    now : (o : Option RunningProcess)
        → (let t : ℕ = u.target in let m : ℕ = u.unit in Runs (λ x. IsOwn s t m x.process) o)
        → Runs (IsLastWriter made all) o → Runs (IsLastWriter next all) o
    now None e g = tt
    now (Some x) e g = λ w free some. g w free ((λ i. sym (f x.process e.is w) i == 0) ∙ some)

pub same_units : (s : ScenarioValue) (made next : List ProcessProgress) (all : List Writer) (units : List UnitState)
    → ((q : Process) → process_of s q.id ≡ Some q → is_writing q ≡ true
    → (progress_in next q.id).runs ≡ (progress_in made q.id).runs)
    → AllOwnUnits s units → AllUnits (IsWrittenUnit made all) units → AllUnits (IsWrittenUnit next all) units
same_units s made next all [] f own h = tt
same_units s made next all (u ∷ units) f own h =
    (same_unit s made next all u f own.0 h.0, same_units s made next all units f own.1 h.1)

-- What it says of the process that runs.
pub last_writer : (s : ScenarioValue) (made : List ProcessProgress)
    (all : List Writer) (units : List UnitState) (a : Process) (r : RunningProcess)
    → AllOwnUnits s units → process_of s a.id ≡ Some a → is_writing a ≡ true → Steps.running_in units a.id ≡ Some r
    → r.reply ≡ None → ((progress_in made a.id).runs == 0) ≡ false → AllUnits (IsWrittenUnit made all) units
    → writer_of all a.target a.unit ≡ Some a.id
last_writer s made all [] a r own is w e free some h = none_some r e
last_writer s made all (u ∷ units) a r own is w e free some h =
    by (Steps.running_if u.current a.id) refl e (λ b. last_writer s made all units a r own.1 is w b free some h.1)
  where
    inner : (o : Option RunningProcess) (x : RunningProcess) → Steps.running_if o a.id ≡ Some x
        → x.reply ≡ None → (let t : ℕ = u.target in let m : ℕ = u.unit in Runs (λ y. IsOwn s t m y.process) o)
        → Runs (IsLastWriter made all) o → writer_of all a.target a.unit ≡ Some a.id
    inner None x z f b g = none_some x z
    inner (Some y) x z f b g = at (same_id y.process.id a.id) refl z
      where
        at : (q : Bool) → same_id y.process.id a.id ≡ q → (if q then Some y else None) ≡ Some x
            → writer_of all a.target a.unit ≡ Some a.id
        at true eq c =
            let z : y.process ≡ a = same_Some y.process a
            (sym b.is ∙ ap (process_of s) (id_is y.process.id a.id eq) ∙ is) in
            (λ i. writer_of all (sym z i).target (sym z i).unit)
            ∙ g (ap is_writing z ∙ w) (ap (λ (v : RunningProcess). v.reply) (same_Some y x c) ∙ f)
            ((λ i. (progress_in made (z i).id).runs == 0) ∙ some)
            ∙ (λ i. Some (z i).id)
        at false eq c = none_some x c

    by : (o : Option RunningProcess) → Steps.running_if u.current a.id ≡ o
        → (if is_some o then o else Steps.running_in units a.id) ≡ Some r
        → (Steps.running_in units a.id ≡ Some r → writer_of all a.target a.unit ≡ Some a.id)
        → writer_of all a.target a.unit ≡ Some a.id
    by None z b rest = rest b
    by (Some x) z b rest =
        inner u.current x z (ap (λ (v : RunningProcess). v.reply) (same_Some x r b) ∙ free) own.0.current h.0.current
