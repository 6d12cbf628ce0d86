-- The process that a target has ready is its own, and of the scenario.
use Rattle.book_laws.proofs
use proofs.Names.{ℕ, ◌≡◌, ◌+◌, Bool, true, false, ◌&&◌, ◌∙◌, List, [], ◌∷◌, Option, Some, None, refl, sym, ap, subst}
use proofs.Names.{inl, inr, eqb-true, cases_Bool, same_Some, if◌then◌else◌, ◌==◌, and_first, none_number, Connection}
use proofs.Names.{ScenarioValue, Process, process_of, current_of, is_initiator, IsOwnRunning, IsOwnUnit, AllOwnUnits}
use proofs.Names.{IsSound, RunningProcess, UnitState, Array, unit_state_at, is_held, Item, process, abort, aim_of}
use proofs.Names.{Ready, ready_in, is_ready_before, first_ready, RunState, array_of, process_item, since_of, seek_of}
use proofs.Names.{ready_at, ready_among, ready_of, target_if, target_of, initiator_if, callee, AreUnits, IsReadyFor}
use proofs.{Names.{IsAimedAt}, Carried.Facts.{process_none}, Said.First.{process_unit}}

none_some : (x : Ready) → (let a : Option Ready = None in a) ≡ Some x → ⊥
none_some x e = cc

none_unit : (x : UnitState) → (let a : Option UnitState = None in a) ≡ Some x → ⊥
none_unit x e = cc

abbrev or_unit : UnitState → Option UnitState → UnitState
or_unit x None = x
or_unit x (Some y) = y

abbrev pub or_ready : Ready → Option Ready → Ready
or_ready x None = x
or_ready x (Some y) = y

-- Of a unit that is found.
found_own : (s : ScenarioValue) (units : List UnitState) (target unit : ℕ) (u : UnitState) → AllOwnUnits s units
    → unit_state_at units target unit ≡ Some u → IsOwnUnit s u × (u.target ≡ target)
found_own s [] target unit u h e = absurd (none_unit u e)
found_own s (v ∷ units) target unit u h e =
    go (v.target == target && v.unit == unit) refl (found_own s units target unit u h.1) e
  where
    go : (q : Bool) → (v.target == target && v.unit == unit) ≡ q
        → (unit_state_at units target unit ≡ Some u → IsOwnUnit s u × (u.target ≡ target))
        → (if q then Some v else unit_state_at units target unit) ≡ Some u → IsOwnUnit s u × (u.target ≡ target)
    go true f rest z =
        let same : v ≡ u = ap (or_unit u) z in (
          subst (λ (x : UnitState). IsOwnUnit s x) same h.0,
          sym (ap (λ (x : UnitState). x.target) same)
              ∙ eqb-true v.target target (and_first (v.target == target) (v.unit == unit) f),
        )
    go false f rest z = rest z

pub record IsOwnReady (s : ScenarioValue) (target : ℕ) (r : Ready) : Type 0 where
  pub process_is : process_of s r.process.id ≡ Some r.process
  pub target_is : r.process.target ≡ target

-- Of one unit.
ready_own : (s : ScenarioValue) (a : Array) (times : List ℕ) (seek target unit : ℕ) (r : Ready) → AllOwnUnits s a.units
    → ready_at a times seek target unit ≡ Some r → IsOwnReady s target r
ready_own s a times seek target unit r h e = go (unit_state_at a.units target unit) refl
  where
    time : ℕ
    time = since_of a.units times target unit + seek

    by : (q : Bool) (u : UnitState) (c : Option RunningProcess) → IsOwnRunning s u.target u.unit c → u.target ≡ target
        → ready_in q c (since_of a.units times target unit + seek) ≡ Some r → IsOwnReady s target r
    by q u None own t z = absurd (none_some r z)
    by true u (Some c) own t z = absurd (none_some r z)
    by false u (Some c) own t z =
        let same : c.process ≡ r.process = ap (λ (x : Option Ready). (or_ready r x).process) z in
        record {
          process_is = subst (λ (y : Process). process_of s y.id ≡ Some y) same own.is;
          target_is = sym (ap (λ (y : Process). y.target) same) ∙ own.target_is ∙ t;
        }

    go : (x : Option UnitState) → unit_state_at a.units target unit ≡ x → IsOwnReady s target r
    go None f = absurd (none_some r (sym (ap (λ (x : Option UnitState). ready_in (is_held a.holds target unit)
        (current_of x) (since_of a.units times target unit + seek)) f) ∙ e))
    go (Some u) f =
        let own = found_own s a.units target unit u h f in
        by (is_held a.holds target unit) u u.current own.0.current own.1 (sym (ap (λ (x : Option UnitState). ready_in
        (is_held a.holds target unit) (current_of x) (since_of a.units times target unit + seek)) f) ∙ e)

-- The first of two is one of them.
abbrev OwnIf : ScenarioValue → ℕ → Option Ready → Type 0
OwnIf s target x = (r : Ready) → x ≡ Some r → IsOwnReady s target r

first_own : (s : ScenarioValue) (target : ℕ) (a b : Option Ready) → OwnIf s target a → OwnIf s target b
    → OwnIf s target (first_ready a b)
first_own s target None b h g = g
first_own s target (Some a) None h g = h
first_own s target (Some a) (Some b) h g = elim (cases_Bool (is_ready_before b a)) [ inl e ↦ rw e g | inr e ↦ rw e h ]

ready_is_own : (s : ScenarioValue) (a : Array) (times : List ℕ) (seek t : ℕ) → AllOwnUnits s a.units
    → OwnIf s t (ready_among a times seek t)
ready_is_own s a times seek t h =
    let at : (m : ℕ) → OwnIf s t (ready_at a times seek t m) = λ m r e. ready_own s a times seek t m r h e in
    let none : OwnIf s t None = λ r e. absurd (none_some r e) in
    first_own s t (ready_at a times seek t 0) _ (at 0)
    (first_own s t (ready_at a times seek t 1) _ (at 1)
    (first_own s t (ready_at a times seek t 2) _ (at 2)
    (first_own s t (ready_at a times seek t 3) _ (at 3)
    (first_own s t (ready_at a times seek t 4) _ (at 4)
    (first_own s t (ready_at a times seek t 5) _ (at 5)
    (first_own s t (ready_at a times seek t 6) _ (at 6)
    (first_own s t (ready_at a times seek t 7) None (at 7) none)))))))

-- So the process of a reselection is of both ends, where its initiator was called.
pub ready_for : (s : ScenarioValue) (k : RunState) (n : Connection) (r : Ready) → AreUnits s
    → AllOwnUnits s (array_of s k).units → ready_of s k n.target ≡ Some r → r.process.initiator ≡ n.initiator
    → IsReadyFor s k n
ready_for s k n r u h e i =
    let own = ready_is_own s (array_of s k) k.current_since (seek_of s.targets n.target) n.target h r e in
    record {
      ready = r;
      ready_is = e;
      unit_in = process_unit s r.process.id r.process u own.process_is;
      process = r.process;
      process_is = own.process_is;
      initiator_is = i;
      target_is = own.target_is;
    }

-- ---- by whom a device calls

-- Of the array only that its units hold processes of their own is needed.
pub reselects_by : (s : ScenarioValue) (k : RunState) (n : Connection) → AreUnits s → AllOwnUnits s (array_of s k).units
    → is_initiator s.hosts n.target ≡ false → callee s k n.target (aim_of k.story.aims n.target) ≡ Some n.initiator
    → IsReadyFor s k n
reselects_by s k n u h host e = go (ready_of s k n.target) refl
  where
    called : initiator_if (ready_of s k n.target) ≡ Some n.initiator
    called = sym (ap
        (λ (q : Bool). if q then target_of s (aim_of k.story.aims n.target) else initiator_if (ready_of s k n.target))
        host) ∙ e

    go : (x : Option Ready) → ready_of s k n.target ≡ x → IsReadyFor s k n
    go None f = absurd (none_number n.initiator (sym (ap initiator_if f) ∙ called))
    go (Some r) f = ready_for s k n r u h f (same_Some _ n.initiator (sym (ap initiator_if f) ∙ called))

pub reselects_for : (s : ScenarioValue) (k : RunState) (n : Connection) → AreUnits s → IsSound s (array_of s k)
    → is_initiator s.hosts n.target ≡ false → callee s k n.target (aim_of k.story.aims n.target) ≡ Some n.initiator
    → IsReadyFor s k n
reselects_for s k n u h host e = reselects_by s k n u h.units host e

pub selects_for : (s : ScenarioValue) (k : RunState) (n : Connection) → is_initiator s.hosts n.initiator ≡ true
    → callee s k n.initiator (aim_of k.story.aims n.initiator) ≡ Some n.target → IsAimedAt s k n
selects_for s k n host e = go (aim_of k.story.aims n.initiator) refl
  where
    called : target_of s (aim_of k.story.aims n.initiator) ≡ Some n.target
    called = sym (ap (λ (q : Bool). if q then target_of s (aim_of k.story.aims n.initiator)
        else initiator_if (ready_of s k n.initiator)) host) ∙ e

    of_item : (item : Item) → target_of s (Some item) ≡ Some n.target
        → (c : Process) → process_item s (Some item) ≡ Some c → c.target ≡ n.target
    of_item (process id) z c f = same_Some c.target n.target (sym (ap target_if f) ∙ z)
    of_item (abort m) z c f = absurd (process_none c f)

    go : (x : Option Item) → aim_of k.story.aims n.initiator ≡ x → IsAimedAt s k n
    go None f = absurd (none_number n.target (sym (ap (target_of s) f) ∙ called))
    go (Some item) f = record { item = item; aim_is = f; target_is = of_item item (sym (ap (target_of s) f) ∙ called) }
