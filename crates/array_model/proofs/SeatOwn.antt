-- What the processes of a sound array have to do with a seat.
use Rattle.std.proofs.Common.{ℕ, ◌≡◌, Bool, true, false, List, [], ◌∷◌, ◌∙◌, refl, sym, ap, subst, Option, Some, None}
use Rattle.std.specs.Prelude.{if◌then◌else◌, ◌&&◌, ◌||◌, is_some}
use Rattle.std.specs.List.{list_any}
use Rattle.bus_base.specs.declared.ProcId.{ProcId}
use Rattle.scenario.specs.Value.{ScenarioValue}
use Rattle.array_model.specs.Processes.{Process, process_of, same_id}
use Rattle.array_model.specs.Execution.{Reply}
use Rattle.array_model.specs.Order.{without_process}
use Rattle.array_model.specs.Units.{RunningProcess, UnitState, unit_state_at, guest_at, without_guest}
use Rattle.array_model.specs.Steps.{guests_with_reply, current_with_reply, running_if, running_in, unit_without}
use Rattle.array_model.specs.Steps.{is_of_unit, is_waiting}
use Rattle.array_model.specs.Seats.{guests_at, current_of, unit_with_reply, is_waiting_at}
use Rattle.array_model.specs.SoundArray.{IsOwn, AllOwn, IsOwnRunning, IsOwnUnit, AllOwnUnits, AllOwnGuests, AreApart}
use Rattle.array_model.proofs.SeatLookups.{same_id_is, is_place, place_is, found_target, found_unit}
use Rattle.bus_base.proofs.Tests.{eq_self}

pub of_own : (p : Process) → is_of_unit p p.target p.unit ≡ true
of_own p = λ i. eq_self p.target i && eq_self p.unit i

-- Two processes of the scenario with one number are one.
pub own_is : (s : ScenarioValue) (q p : Process) (id : ProcId) → process_of s q.id ≡ Some q → same_id q.id id ≡ true
    → process_of s id ≡ Some p → q ≡ p
own_is s q p id h z e =
    let one : process_of s id ≡ Some q = (λ i. process_of s (sym (same_id_is q.id id z) i)) ∙ h in
    let two : Some q ≡ Some p = sym one ∙ e in cc

pub own_place : (s : ScenarioValue) (q p : Process) (id : ProcId) → process_of s q.id ≡ Some q → same_id q.id id ≡ true
    → process_of s id ≡ Some p → (t n : ℕ) → is_of_unit q t n ≡ is_of_unit p t n
own_place s q p id h z e t n = λ i. is_of_unit (own_is s q p id h z e i) t n

-- ---- guests

pub guest_own : (s : ScenarioValue) (guests : List RunningProcess) (id : ProcId) (p : Process) → AllOwnGuests s guests
    → process_of s id ≡ Some p → guest_at guests id ≡ guest_at (guests_at guests p.target p.unit) id
guest_own s [] id p b e = refl
guest_own s (g ∷ guests) id p b e =
    go (guest_own s guests id p b.1 e) (same_id g.process.id id) refl (is_of_unit g.process p.target p.unit) refl
  where
    rest : List RunningProcess
    rest = guests_at guests p.target p.unit

    go : guest_at guests id ≡ guest_at (guests_at guests p.target p.unit) id
        → (x : Bool) → same_id g.process.id id ≡ x → (y : Bool) → is_of_unit g.process p.target p.unit ≡ y
        → (if x then Some g else guest_at guests id)
        ≡ guest_at (if y then g ∷ guests_at guests p.target p.unit else guests_at guests p.target p.unit) id
    go h true z true w = (λ i. if sym z i then Some g else guest_at (guests_at guests p.target p.unit) id)
    go h true z false w =
        let no : false ≡ true = sym w ∙ own_place s g.process p id b.0 z e p.target p.unit ∙ of_own p in cc
    go h false z true w = h ∙ (λ i. if sym z i then Some g else guest_at (guests_at guests p.target p.unit) id)
    go h false z false w = h

pub guest_is : (s : ScenarioValue) (guests : List RunningProcess) (id : ProcId) (p : Process) (g : RunningProcess)
    → AllOwnGuests s guests → process_of s id ≡ Some p → guest_at guests id ≡ Some g → p ≡ g.process
guest_is s [] id p g b e h = cc
guest_is s (f ∷ guests) id p g b e h = go (λ k. guest_is s guests id p g b.1 e k) (same_id f.process.id id) refl h
  where
    go : (guest_at guests id ≡ Some g → p ≡ g.process) → (x : Bool) → same_id f.process.id id ≡ x
        → (if x then Some f else guest_at guests id) ≡ Some g → p ≡ g.process
    go more true z k = let same : f ≡ g = cc in sym (own_is s f.process p id b.0 z e) ∙ (λ i. (same i).process)
    go more false z k = more k

pub guests_replied_own : (s : ScenarioValue) (guests : List RunningProcess) (id : ProcId) (p : Process) (reply : Reply)
    → AllOwnGuests s guests → process_of s id ≡ Some p
    → guests_at (guests_with_reply guests id reply) p.target p.unit
    ≡ guests_with_reply (guests_at guests p.target p.unit) id reply
guests_replied_own s [] id p reply b e = refl
guests_replied_own s (g ∷ guests) id p reply b e = go (guests_replied_own s guests id p reply b.1 e)
    (same_id g.process.id id) refl (is_of_unit g.process p.target p.unit) refl
  where
    go : guests_at (guests_with_reply guests id reply) p.target p.unit
        ≡ guests_with_reply (guests_at guests p.target p.unit) id reply
        → (x : Bool) → same_id g.process.id id ≡ x → (y : Bool) → is_of_unit g.process p.target p.unit ≡ y → guests_at
        (if x then record g { reply = Some reply } ∷ guests else g ∷ guests_with_reply guests id reply) p.target p.unit
        ≡ guests_with_reply (if y then g ∷ guests_at guests p.target p.unit else guests_at guests p.target p.unit) id
        reply
    go h true z true w = (λ i. if w i then record g { reply = Some reply } ∷ guests_at guests p.target p.unit
        else guests_at guests p.target p.unit)
        ∙ (λ i. if sym z i then record g { reply = Some reply } ∷ guests_at guests p.target p.unit
        else g ∷ guests_with_reply (guests_at guests p.target p.unit) id reply)
    go h true z false w =
        let no : false ≡ true = sym w ∙ own_place s g.process p id b.0 z e p.target p.unit ∙ of_own p in cc
    go h false z true w = (λ i. if w i then g ∷ h i else h i)
        ∙ (λ i. if sym z i then record g { reply = Some reply } ∷ guests_at guests p.target p.unit
        else g ∷ guests_with_reply (guests_at guests p.target p.unit) id reply)
    go h false z false w = (λ i. if w i then g ∷ h i else h i)

pub guests_replied_other :
    (s : ScenarioValue) (guests : List RunningProcess) (id : ProcId) (p : Process) (reply : Reply) (t n : ℕ)
    → AllOwnGuests s guests → process_of s id ≡ Some p → is_of_unit p t n ≡ false
    → guests_at (guests_with_reply guests id reply) t n ≡ guests_at guests t n
guests_replied_other s [] id p reply t n b e o = refl
guests_replied_other s (g ∷ guests) id p reply t n b e o =
    go (guests_replied_other s guests id p reply t n b.1 e o) (same_id g.process.id id) refl
  where
    go : guests_at (guests_with_reply guests id reply) t n ≡ guests_at guests t n
        → (x : Bool) → same_id g.process.id id ≡ x
        → guests_at (if x then record g { reply = Some reply } ∷ guests else g ∷ guests_with_reply guests id reply) t n
        ≡ (if is_of_unit g.process t n then g ∷ guests_at guests t n else guests_at guests t n)
    go h true z =
        let w : is_of_unit g.process t n ≡ false = own_place s g.process p id b.0 z e t n ∙ o in
        (λ i. if w i then record g { reply = Some reply } ∷ guests_at guests t n else guests_at guests t n)
        ∙ (λ i. if sym w i then g ∷ guests_at guests t n else guests_at guests t n)
    go h false z = λ i. if is_of_unit g.process t n then g ∷ h i else h i

pub guests_without_other : (s : ScenarioValue) (guests : List RunningProcess) (id : ProcId) (p : Process) (t n : ℕ)
    → AllOwnGuests s guests → process_of s id ≡ Some p → is_of_unit p t n ≡ false
    → guests_at (without_guest guests id) t n ≡ guests_at guests t n
guests_without_other s [] id p t n b e o = refl
guests_without_other s (g ∷ guests) id p t n b e o =
    go (guests_without_other s guests id p t n b.1 e o) (same_id g.process.id id) refl
  where
    go : guests_at (without_guest guests id) t n ≡ guests_at guests t n → (x : Bool) → same_id g.process.id id ≡ x
        → guests_at (if x then without_guest guests id else g ∷ without_guest guests id) t n
        ≡ (if is_of_unit g.process t n then g ∷ guests_at guests t n else guests_at guests t n)
    go h true z =
        let w : is_of_unit g.process t n ≡ false = own_place s g.process p id b.0 z e t n ∙ o in
        h ∙ (λ i. if sym w i then g ∷ guests_at guests t n else guests_at guests t n)
    go h false z = λ i. if is_of_unit g.process t n then g ∷ h i else h i

-- ---- units

pub own_found : (s : ScenarioValue) (units : List UnitState) (t n : ℕ) (u : UnitState) → AllOwnUnits s units
    → unit_state_at units t n ≡ Some u → IsOwnUnit s u
own_found s [] t n u b h = cc
own_found s (v ∷ units) t n u b h = go (λ k. own_found s units t n u b.1 k) (is_place v t n) refl h
  where
    go : (unit_state_at units t n ≡ Some u → IsOwnUnit s u) → (x : Bool) → is_place v t n ≡ x
        → (if x then Some v else unit_state_at units t n) ≡ Some u → IsOwnUnit s u
    go more true z k = let same : v ≡ u = cc in subst (λ (w : UnitState). IsOwnUnit s w) same b.0
    go more false z k = more k

-- A process of this number that is current at a unit is at its own.
current_place : (s : ScenarioValue) (u : UnitState) (r : RunningProcess) (id : ProcId) (p : Process)
    → IsOwn s u.target u.unit r.process → process_of s id ≡ Some p → same_id r.process.id id ≡ true
    → is_place u p.target p.unit ≡ true
current_place s u r id p b e z =
    let same : r.process ≡ p = own_is s r.process p id b.is z e in
    place_is u p.target p.unit (sym b.target_is ∙ (λ i. (same i).target)) (sym b.unit_is ∙ (λ i. (same i).unit))

pub none_running : (s : ScenarioValue) (u : UnitState) (id : ProcId) (p : Process) → IsOwnUnit s u
    → process_of s id ≡ Some p → is_place u p.target p.unit ≡ false → running_if u.current id ≡ None
none_running s u id p b e o = go u.current b.current
  where
    inner : (r : RunningProcess) → IsOwn s u.target u.unit r.process → (x : Bool) → same_id r.process.id id ≡ x
        → (if x then Some r else None) ≡ None
    inner r k true z = let no : false ≡ true = sym o ∙ current_place s u r id p k e z in cc
    inner r k false z = refl

    go : (x : Option RunningProcess) → IsOwnRunning s u.target u.unit x → running_if x id ≡ None
    go None k = refl
    go (Some r) k = inner r k (same_id r.process.id id) refl

pub running_unit : (s : ScenarioValue) (units : List UnitState) (id : ProcId) (p : Process)
    → AllOwnUnits s units → AreApart units → process_of s id ≡ Some p
    → running_in units id ≡ running_if (current_of (unit_state_at units p.target p.unit)) id
running_unit s [] id p b c e = refl
running_unit s (u ∷ units) id p b c e = go (running_unit s units id p b.1 c.1 e) (is_place u p.target p.unit) refl
  where
    here : (x : Option RunningProcess) → running_in units id ≡ None → (if is_some x then x else running_in units id) ≡ x
    here None k = k
    here (Some r) k = refl

    go : running_in units id ≡ running_if (current_of (unit_state_at units p.target p.unit)) id
        → (x : Bool) → is_place u p.target p.unit ≡ x
        → (if is_some (running_if u.current id) then running_if u.current id else running_in units id)
        ≡ running_if (current_of (if x then Some u else unit_state_at units p.target p.unit)) id
    go h true z =
        let one : u.target ≡ p.target = found_target (u ∷ units) p.target p.unit u
        (λ i. if z i then Some u else unit_state_at units p.target p.unit) in
        let two : u.unit ≡ p.unit = found_unit (u ∷ units) p.target p.unit u
        (λ i. if z i then Some u else unit_state_at units p.target p.unit) in
        let gone : unit_state_at units p.target p.unit ≡ None = (λ i. unit_state_at units (sym one i) (sym two i))
        ∙ c.0 in
        here (running_if u.current id) (h ∙ (λ i. running_if (current_of (gone i)) id))
    go h false z = (λ i. if is_some (none_running s u id p b.0 e z i) then none_running s u id p b.0 e z i
        else running_in units id) ∙ h

pub running_is : (s : ScenarioValue) (units : List UnitState) (id : ProcId) (p : Process) (r : RunningProcess)
    → AllOwnUnits s units → process_of s id ≡ Some p → running_in units id ≡ Some r → p ≡ r.process
running_is s [] id p r b e h = cc
running_is s (u ∷ units) id p r b e h = go (λ k. running_is s units id p r b.1 e k) u.current b.0.current h
  where
    inner : (running_in units id ≡ Some r → p ≡ r.process) → (q : RunningProcess) → IsOwn s u.target u.unit q.process
        → (x : Bool) → same_id q.process.id id ≡ x
        → (if is_some (if x then Some q else None) then (if x then Some q else None) else running_in units id) ≡ Some r
        → p ≡ r.process
    inner more q k true z l = let same : q ≡ r = cc in sym (own_is s q.process p id k.is z e) ∙ (λ i. (same i).process)
    inner more q k false z l = more l

    go : (running_in units id ≡ Some r → p ≡ r.process) → (x : Option RunningProcess) → IsOwnRunning s u.target u.unit x
        → (if is_some (running_if x id) then running_if x id else running_in units id) ≡ Some r → p ≡ r.process
    go more None k l = more l
    go more (Some q) k l = inner more q k (same_id q.process.id id) refl l

-- ---- units to which a process does not belong

pub replied_other : (s : ScenarioValue) (u : UnitState) (id : ProcId) (p : Process) (reply : Reply) → IsOwnUnit s u
    → process_of s id ≡ Some p → is_place u p.target p.unit ≡ false → unit_with_reply id reply u ≡ u
replied_other s u id p reply b e o = λ i. record u { current = go u.current b.current i }
  where
    inner : (r : RunningProcess) → IsOwn s u.target u.unit r.process → (x : Bool) → same_id r.process.id id ≡ x
        → (if x then Some (record r { reply = Some reply }) else Some r) ≡ Some r
    inner r k true z = let no : false ≡ true = sym o ∙ current_place s u r id p k e z in cc
    inner r k false z = refl

    go : (x : Option RunningProcess) → IsOwnRunning s u.target u.unit x → current_with_reply x id reply ≡ x
    go None k = refl
    go (Some r) k = inner r k (same_id r.process.id id) refl

waiting_other : (s : ScenarioValue) (u : UnitState) (waiting : List Process) (id : ProcId) (p : Process)
    → AllOwn s u.target u.unit waiting → process_of s id ≡ Some p → is_place u p.target p.unit ≡ false
    → without_process waiting id ≡ waiting
waiting_other s u [] id p b e o = refl
waiting_other s u (q ∷ waiting) id p b e o = go (waiting_other s u waiting id p b.1 e o) (same_id q.id id) refl
  where
    go : without_process waiting id ≡ waiting → (x : Bool) → same_id q.id id ≡ x
        → (if x then without_process waiting id else q ∷ without_process waiting id) ≡ q ∷ waiting
    go h true z =
        let no : false ≡ true = sym o ∙ current_place s u (record { process = q; reply = None }) id p b.0 e z in
        cc
    go h false z = ap (λ (w : List Process). q ∷ w) h

pub without_other : (s : ScenarioValue) (u : UnitState) (id : ProcId) (p : Process) → IsOwnUnit s u
    → process_of s id ≡ Some p → is_place u p.target p.unit ≡ false → unit_without u id ≡ u
without_other s u id p b e o =
    λ i. record u { waiting = waiting_other s u u.waiting id p b.waiting e o i; current = go i }
  where
    go : (if is_some (running_if u.current id) then None else u.current) ≡ u.current
    go = λ i. if is_some (none_running s u id p b e o i) then None else u.current

-- No process of this number waits at another unit.
pub waits_other : (s : ScenarioValue) (u : UnitState) (waiting : List Process) (id : ProcId) (p : Process)
    → AllOwn s u.target u.unit waiting → process_of s id ≡ Some p → is_place u p.target p.unit ≡ false
    → list_any (λ (q : Process). same_id q.id id) waiting ≡ false
waits_other s u [] id p b e o = refl
waits_other s u (q ∷ waiting) id p b e o = go (waits_other s u waiting id p b.1 e o) (same_id q.id id) refl
  where
    go : list_any (λ (q : Process). same_id q.id id) waiting ≡ false → (x : Bool) → same_id q.id id ≡ x
        → (x || list_any (λ (q : Process). same_id q.id id) waiting) ≡ false
    go h true z =
        let no : false ≡ true = sym o ∙ current_place s u (record { process = q; reply = None }) id p b.0 e z in
        cc
    go h false z = h

pub waiting_unit : (s : ScenarioValue) (units : List UnitState) (id : ProcId) (p : Process)
    → AllOwnUnits s units → AreApart units → process_of s id ≡ Some p
    → is_waiting units id ≡ is_waiting_at (unit_state_at units p.target p.unit) id
waiting_unit s [] id p b c e = refl
waiting_unit s (u ∷ units) id p b c e = go (waiting_unit s units id p b.1 c.1 e) (is_place u p.target p.unit) refl
  where
    or_false : (x : Bool) → (x || false) ≡ x
    or_false true = refl
    or_false false = refl

    go : is_waiting units id ≡ is_waiting_at (unit_state_at units p.target p.unit) id
        → (x : Bool) → is_place u p.target p.unit ≡ x
        → (list_any (λ (q : Process). same_id q.id id) u.waiting || is_waiting units id)
        ≡ is_waiting_at (if x then Some u else unit_state_at units p.target p.unit) id
    go h true z =
        let one : u.target ≡ p.target = found_target (u ∷ units) p.target p.unit u
        (λ i. if z i then Some u else unit_state_at units p.target p.unit) in
        let two : u.unit ≡ p.unit = found_unit (u ∷ units) p.target p.unit u
        (λ i. if z i then Some u else unit_state_at units p.target p.unit) in
        let gone : unit_state_at units p.target p.unit ≡ None = (λ i. unit_state_at units (sym one i) (sym two i))
        ∙ c.0 in
        (λ i. list_any (λ (q : Process). same_id q.id id) u.waiting || (h ∙ (λ j. is_waiting_at (gone j) id)) i)
        ∙ or_false (list_any (λ (q : Process). same_id q.id id) u.waiting)
    go h false z = (λ i. waits_other s u u.waiting id p b.0.waiting e z i || is_waiting units id) ∙ h

pub guest_process : (s : ScenarioValue) (guests : List RunningProcess) (id : ProcId) (g : RunningProcess)
    → AllOwnGuests s guests → guest_at guests id ≡ Some g → process_of s g.process.id ≡ Some g.process
guest_process s [] id g b h = cc
guest_process s (f ∷ guests) id g b h = go (λ k. guest_process s guests id g b.1 k) (same_id f.process.id id) h
  where
    go : (guest_at guests id ≡ Some g → process_of s g.process.id ≡ Some g.process) → (x : Bool)
        → (if x then Some f else guest_at guests id) ≡ Some g → process_of s g.process.id ≡ Some g.process
    go more true k =
        let same : f ≡ g = cc in
        subst (λ (r : RunningProcess). process_of s r.process.id ≡ Some r.process) same b.0
    go more false k = more k
