-- The process that a target has ready may run: it is the current one of its unit, which is not held (6.1.4, 7.8).
use Rattle.trace_laws.proofs
use proofs.Names.{inr, ℕ, ◌≡◌, ◌+◌, Bool, true, false, not, ◌&&◌, ◌||◌, ◌∙◌, List, [], ◌∷◌, Option, Some, None, refl}
use proofs.Names.{sym, ap, subst, ◌==◌, same_Some, if◌then◌else◌, is_some, ProcId, ScenarioValue, own_found}
use proofs.Names.{current_process, reply_in, Process, process_of, same_id, current_of, IsOwn, IsOwnRunning, IsOwnUnit}
use proofs.Names.{IsSound, running_if, running_in, has_ended, RunningProcess, UnitState, Array, unit_state_at, guest_at}
use proofs.Names.{is_held, without_reply, Ready, ready_in, is_ready_before, first_ready, since_of, ready_at}
use proofs.Names.{ready_among, running_is, self_id, id_is, or_ready, none_some, no_guest, IsFoundAt, found_at, Runs}
use proofs.Names.{OnUnits, IsUnanswered, IsAtRest, RunsOpen}

-- ---- what is ready is current

record IsCurrent (a : Array) (t : ℕ) (r : Ready) : Type 0 where
  number : ℕ
  unit : UnitState
  at : unit_state_at a.units t number ≡ Some unit
  current : RunningProcess
  current_is : unit.current ≡ Some current
  process_is : current.process ≡ r.process
  free : is_held a.holds t number ≡ false

abbrev IfCurrent : Array → ℕ → Option Ready → Type 0
IfCurrent a t x = (r : Ready) → x ≡ Some r → IsCurrent a t r

ready_current : (a : Array) (times : List ℕ) (seek t m : ℕ) → IfCurrent a t (ready_at a times seek t m)
ready_current a times seek t m r e = go (unit_state_at a.units t m) refl e
  where
    by : (u : UnitState) → unit_state_at a.units t m ≡ Some u → (c : Option RunningProcess) → u.current ≡ c → (q : Bool)
        → is_held a.holds t m ≡ q → ready_in q c (since_of a.units times t m + seek) ≡ Some r → IsCurrent a t r
    by u f None g q h z = none_some r z
    by u f (Some c) g true h z = none_some r z
    by u f (Some c) g false h z = record {
      number = m;
      unit = u;
      at = f;
      current = c;
      current_is = g;
      process_is = ap (λ (x : Option Ready). (or_ready r x).process) z;
      free = h;
    }

    go : (x : Option UnitState) → unit_state_at a.units t m ≡ x
        → ready_in (is_held a.holds t m) (current_of x) (since_of a.units times t m + seek) ≡ Some r → IsCurrent a t r
    go None f z = none_some r z
    go (Some u) f z = by u f u.current refl (is_held a.holds t m) refl z

first_current : (a : Array) (t : ℕ) (x y : Option Ready) → IfCurrent a t x → IfCurrent a t y
    → IfCurrent a t (first_ready x y)
first_current a t None y h g = g
first_current a t (Some x) None h g = h
first_current a t (Some x) (Some y) h g =
    elim (is_ready_before y x) as (λ q. IfCurrent a t (if q then Some y else Some x)) [ true ↦ g | false ↦ h ]

among_current : (a : Array) (times : List ℕ) (seek t : ℕ) → IfCurrent a t (ready_among a times seek t)
among_current a times seek t =
    let at : (m : ℕ) → IfCurrent a t (ready_at a times seek t m) = λ m. ready_current a times seek t m in
    let none : IfCurrent a t None = λ r e. none_some r e in
    first_current a t (ready_at a times seek t 0) _ (at 0)
    (first_current a t (ready_at a times seek t 1) _ (at 1)
    (first_current a t (ready_at a times seek t 2) _ (at 2)
    (first_current a t (ready_at a times seek t 3) _ (at 3)
    (first_current a t (ready_at a times seek t 4) _ (at 4)
    (first_current a t (ready_at a times seek t 5) _ (at 5)
    (first_current a t (ready_at a times seek t 6) _ (at 6)
    (first_current a t (ready_at a times seek t 7) None (at 7) none)))))))

-- ---- it is found

record IsFound (units : List UnitState) (id : ProcId) : Type 0 where
  found : RunningProcess
  found_is : running_in units id ≡ Some found

found_current : (units : List UnitState) (t m : ℕ) (u : UnitState) (c : RunningProcess) (id : ProcId)
    → unit_state_at units t m ≡ Some u → u.current ≡ Some c → same_id c.process.id id ≡ true → IsFound units id
found_current [] t m u c id e f g = none_some u e
found_current (v ∷ units) t m u c id e f g =
    go (v.target == t && v.unit == m) e (λ h. found_current units t m u c id h f g)
  where
    at : v ≡ u → IsFound (v ∷ units) id
    at same =
        let it : running_if v.current id ≡ Some c = (λ i. running_if (same i).current id)
        ∙ (λ i. running_if (f i) id) ∙ (λ i. if g i then Some c else None) in
        record { found = c; found_is = λ i. if is_some (it i) then it i else running_in units id }

    go : (x : Bool) → (if x then Some v else unit_state_at units t m) ≡ Some u
        → (unit_state_at units t m ≡ Some u → IsFound units id) → IsFound (v ∷ units) id
    go true h rest = at (same_Some v u h)
    go false h rest = by (running_if v.current id) refl (rest h)
      where
        by : (o : Option RunningProcess) → running_if v.current id ≡ o → IsFound units id → IsFound (v ∷ units) id
        by None z w = record {
          found = w.found;
          found_is = (λ i. if is_some (z i) then z i else running_in units id) ∙ w.found_is;
        }
        by (Some x) z w = record { found = x; found_is = λ i. if is_some (z i) then z i else running_in units id }

-- What holds of each current process holds of it.
pub on_running : (q : RunningProcess → Type 0) (units : List UnitState) (id : ProcId) (r : RunningProcess)
    → OnUnits q units → running_in units id ≡ Some r → q r
on_running q [] id r h e = none_some r e
on_running q (u ∷ units) id r h e = go u.current h.0.1 e (λ z. on_running q units id r h.1 z)
  where
    by : (c : RunningProcess) → q c → (x : Bool)
        → (if is_some {T = RunningProcess} (if x then Some c else None) then (if x then Some c else None)
        else running_in units id) ≡ Some r → (running_in units id ≡ Some r → q r) → q r
    by c f true z rest = subst q (same_Some c r z) f
    by c f false z rest = rest z

    go : (o : Option RunningProcess) → Runs q o
        → (if is_some (running_if o id) then running_if o id else running_in units id) ≡ Some r
        → (running_in units id ≡ Some r → q r) → q r
    go None f z rest = rest z
    go (Some c) f z rest = by c f (same_id c.process.id id) z rest

-- ---- it may run

pub record MayBeReady (s : ScenarioValue) (a : Array) (r : Ready) : Type 0 where
  pub runs : RunsOpen a r.process
  pub process_is : process_of s r.process.id ≡ Some r.process
  pub free : is_held a.holds r.process.target r.process.unit ≡ false

pub ready_runs : (s : ScenarioValue) (a : Array) (times : List ℕ) (seek t : ℕ) (r : Ready) → IsSound s a
    → IsAtRest a r.process.id → ready_among a times seek t ≡ Some r → MayBeReady s a r
ready_runs s a times seek t r sound rests e = go (among_current a times seek t r e)
  where
    go : IsCurrent a t r → MayBeReady s a r
    go c = record {
      runs = record {
        runs = record {
          running_is = (λ i. if is_some (guest i) then guest i else running_in a.units z.id) ∙ found.found_is
              ∙ ap (λ (y : RunningProcess). Some y) is_fresh;
          free = λ i. is_some (guest i) || not (held i);
          reply = none.1;
          kind = inr rests;
        };
        open_is = none.2;
      };
      process_is = own_is;
      free = held;
    }
      where
        z : Process
        z = r.process

        own : IsOwnUnit s c.unit
        own = own_found s a.units t c.number c.unit sound.units c.at

        mine : IsOwn s c.unit.target c.unit.unit c.current.process
        mine =
            subst (λ (o : Option RunningProcess). IsOwnRunning s c.unit.target c.unit.unit o) c.current_is own.current

        own_is : process_of s z.id ≡ Some z
        own_is = subst (λ (x : Process). process_of s x.id ≡ Some x) c.process_is mine.is

        found : IsFound a.units z.id
        found = found_current a.units t c.number c.unit c.current z.id c.at c.current_is
            (ap (λ (x : Process). same_id x.id z.id) c.process_is ∙ self_id z.id)

        there : same_id found.found.process.id z.id ≡ true
        there = running_is a.units z.id found.found found.found_is

        none : (found.found.reply ≡ None) × (reply_in a.replies z.id ≡ None) × (has_ended a z.id ≡ false)
        none = on_running (IsUnanswered (reply_in a.replies z.id) (has_ended a z.id) z.id) a.units z.id found.found
            rests.units found.found_is there

        same : found.found.process ≡ z
        same =
            same_Some found.found.process z (sym (current_process s a.units z.id found.found sound.units found.found_is)
            ∙ ap (process_of s) (id_is found.found.process.id z.id there) ∙ own_is)

        is_fresh : found.found ≡ without_reply z
        is_fresh = λ i. record { process = same i; reply = none.0 i }

        guest : guest_at a.guests z.id ≡ None
        guest = no_guest a.guests z.id rests.guests

        at : IsFoundAt c.unit t c.number
        at = found_at a.units t c.number c.unit c.at

        held : is_held a.holds z.target z.unit ≡ false
        held = (λ i. is_held a.holds
            ((ap (λ (x : Process). x.target) (sym c.process_is) ∙ mine.target_is ∙ at.target_is) i)
            ((ap (λ (x : Process). x.unit) (sym c.process_is) ∙ mine.unit_is ∙ at.unit_is) i))
            ∙ c.free
