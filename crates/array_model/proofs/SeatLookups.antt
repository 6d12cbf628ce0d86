-- Look-ups in the lists of the array after each kind of change.
use Rattle.std.proofs.Common.{ℕ, ◌≡◌, Bool, true, false, List, [], ◌∷◌, ◌++◌, ◌∙◌, refl, sym, ap, map, arith, Some}
use Rattle.std.proofs.Common.{None, Option, zero}
use Rattle.std.specs.Prelude.{if◌then◌else◌, ◌&&◌, ◌||◌, ◌==◌, is_some}
use Rattle.std.proofs.lemmas.Grind.{common_steps}
use Rattle.std.proofs.lemmas.Bool.{eqb-true, eq-eqb}
use Rattle.bus_base.specs.declared.ProcId.{ProcId}
use Rattle.cdb_codec.specs.declared.Sense.{Sense}
use Rattle.array_model.specs.Processes.{Process, same_id, same_bool, command_at}
use Rattle.array_model.specs.Execution.{Reply}
use Rattle.array_model.specs.Units.{RunningProcess, UnitState, Nexus, same_nexus, sense_of_nexus, senses_without}
use Rattle.array_model.specs.Units.{nexuses_without, unit_state_at, with_unit, without_guest, units_after_choice}
use Rattle.array_model.specs.Units.{unit_after_choice}
use Rattle.array_model.specs.Steps.{units_with_reply, units_without, kept_units, unit_without, kept_guests, is_of_unit}
use Rattle.array_model.specs.Seats.{unit_mapped, in_hold, guests_at, unit_with_reply, unit_kept}
use Rattle.bus_base.proofs.Tests.{and_first, and_second, eq_self}
use Rattle.scenario.specs.declared.value.CmdDef.{CmdDef}
use Rattle.array_model.specs.Order.{same_number}

-- ---- tests

pub same_bool_is : (a b : Bool) → same_bool a b ≡ true → a ≡ b
same_bool_is true b h = sym h
same_bool_is false true h = cc
same_bool_is false false h = refl

pub same_id_is : (a b : ProcId) → same_id a b ≡ true → a ≡ b
same_id_is a b h =
    let one : a.command ≡ b.command = eqb-true a.command b.command
    (and_first (a.command == b.command) (same_bool a.sense b.sense) h) in
    let two : a.sense ≡ b.sense = same_bool_is a.sense b.sense
    (and_second (a.command == b.command) (same_bool a.sense b.sense) h) in
    λ i. record { command = one i; sense = two i }

pub same_nexus_is : (p q : Nexus) → same_nexus p q ≡ true → p ≡ q
same_nexus_is p q h =
    let rest : (p.target == q.target && p.unit == q.unit) ≡ true = and_second
    (p.initiator == q.initiator) (p.target == q.target && p.unit == q.unit) h in
    let one : p.initiator ≡ q.initiator = eqb-true p.initiator q.initiator
    (and_first (p.initiator == q.initiator) (p.target == q.target && p.unit == q.unit) h) in
    let two : p.target ≡ q.target = eqb-true p.target q.target
    (and_first (p.target == q.target) (p.unit == q.unit) rest) in
    let three : p.unit ≡ q.unit = eqb-true p.unit q.unit (and_second (p.target == q.target) (p.unit == q.unit) rest) in
    λ i. record { initiator = one i; target = two i; unit = three i }

-- ---- what is kept by nexus

pub senses_without_at : (entries : List (Nexus × Sense)) (p q : Nexus)
    → sense_of_nexus (senses_without entries p) q ≡ (if same_nexus p q then None else sense_of_nexus entries q)
senses_without_at [] p q = go (same_nexus p q)
  where
    go : (x : Bool) → sense_of_nexus [] q ≡ (if x then None else sense_of_nexus [] q)
    go true = refl
    go false = refl
senses_without_at (e ∷ entries) p q = go (senses_without_at entries p q) (same_nexus e.0 p) refl
  where
    inner : (x : Bool) → (if x then None else sense_of_nexus entries q)
        ≡ (if x then None else (if x then Some e.1 else sense_of_nexus entries q))
    inner true = refl
    inner false = refl

    swap : (x y : Bool) → (x ≡ true → y ≡ false)
        → (if y then Some e.1 else (if x then None else sense_of_nexus entries q))
        ≡ (if x then None else (if y then Some e.1 else sense_of_nexus entries q))
    swap true y k = ap (λ (z : Bool). if z then Some e.1 else None) (k refl)
    swap false y k = refl

    go : sense_of_nexus (senses_without entries p) q ≡ (if same_nexus p q then None else sense_of_nexus entries q)
        → (x : Bool) → same_nexus e.0 p ≡ x
        → sense_of_nexus (if x then senses_without entries p else e ∷ senses_without entries p) q
        ≡ (if same_nexus p q then None else (if same_nexus e.0 q then Some e.1 else sense_of_nexus entries q))
    go h true z = h ∙ inner (same_nexus p q) ∙ (λ i. if same_nexus p q then None
        else (if same_nexus (sym (same_nexus_is e.0 p z) i) q then Some e.1 else sense_of_nexus entries q))
    go h false z =
        (λ i. if same_nexus e.0 q then Some e.1 else h i)
        ∙ swap (same_nexus p q) (same_nexus e.0 q) (λ w. (λ i. same_nexus e.0 (sym (same_nexus_is p q w) i)) ∙ z)

-- A sense is put in the place of another.
pub sense_put_at : (entries : List (Nexus × Sense)) (p : Nexus) (sense : Sense) (q : Nexus)
    → sense_of_nexus ((p, sense) ∷ senses_without entries p) q
    ≡ (if same_nexus p q then Some sense else sense_of_nexus entries q)
sense_put_at entries p sense q =
    (λ i. if same_nexus p q then Some sense else senses_without_at entries p q i) ∙ go (same_nexus p q)
  where
    go : (x : Bool) → (if x then Some sense else (if x then None else sense_of_nexus entries q))
        ≡ (if x then Some sense else sense_of_nexus entries q)
    go true = refl
    go false = refl

pub nexuses_without_at : (holds : List Nexus) (p q : Nexus)
    → in_hold (nexuses_without holds p) q ≡ (if same_nexus p q then false else in_hold holds q)
nexuses_without_at [] p q = go (same_nexus p q)
  where
    go : (x : Bool) → false ≡ (if x then false else false)
    go true = refl
    go false = refl
nexuses_without_at (e ∷ holds) p q = go (nexuses_without_at holds p q) (same_nexus e p) refl
  where
    inner : (x : Bool) → (if x then false else in_hold holds q) ≡ (if x then false else (x || in_hold holds q))
    inner true = refl
    inner false = refl

    swap : (x y : Bool) → (x ≡ true → y ≡ false)
        → (y || (if x then false else in_hold holds q)) ≡ (if x then false else (y || in_hold holds q))
    swap true y k = ap (λ (z : Bool). z || false) (k refl)
    swap false y k = refl

    go : in_hold (nexuses_without holds p) q ≡ (if same_nexus p q then false else in_hold holds q)
        → (x : Bool) → same_nexus e p ≡ x
        → in_hold (if x then nexuses_without holds p else e ∷ nexuses_without holds p) q
        ≡ (if same_nexus p q then false else (same_nexus e q || in_hold holds q))
    go h true z =
        h ∙ inner (same_nexus p q)
        ∙ (λ i. if same_nexus p q then false else (same_nexus (sym (same_nexus_is e p z) i) q || in_hold holds q))
    go h false z =
        (λ i. same_nexus e q || h i)
        ∙ swap (same_nexus p q) (same_nexus e q) (λ w. (λ i. same_nexus e (sym (same_nexus_is p q w) i)) ∙ z)

pub nexus_put_at : (holds : List Nexus) (p q : Nexus)
    → in_hold (p ∷ nexuses_without holds p) q ≡ (if same_nexus p q then true else in_hold holds q)
nexus_put_at holds p q = (λ i. same_nexus p q || nexuses_without_at holds p q i) ∙ go (same_nexus p q)
  where
    go : (x : Bool) → (x || (if x then false else in_hold holds q)) ≡ (if x then true else in_hold holds q)
    go true = refl
    go false = refl

-- ---- the units

pub mapped_at : (f : UnitState → UnitState) → ((u : UnitState) → (f u).target ≡ u.target)
    → ((u : UnitState) → (f u).unit ≡ u.unit) → (units : List UnitState) (t n : ℕ)
    → unit_state_at (map f units) t n ≡ unit_mapped f (unit_state_at units t n)
mapped_at f a b [] t n = refl
mapped_at f a b (u ∷ units) t n =
    (λ i. if a u i == t && b u i == n then Some (f u) else unit_state_at (map f units) t n)
    ∙ go (mapped_at f a b units t n) (u.target == t && u.unit == n)
  where
    go : unit_state_at (map f units) t n ≡ unit_mapped f (unit_state_at units t n) → (x : Bool)
        → (if x then Some (f u) else unit_state_at (map f units) t n)
        ≡ unit_mapped f (if x then Some u else unit_state_at units t n)
    go h true = refl
    go h false = h

pub replies_map : (units : List UnitState) (id : ProcId) (reply : Reply)
    → units_with_reply units id reply ≡ map (unit_with_reply id reply) units
replies_map [] id reply = refl
replies_map (u ∷ units) id reply =
    ap (λ (us : List UnitState). unit_with_reply id reply u ∷ us) (replies_map units id reply)

pub without_map : (units : List UnitState) (id : ProcId)
    → units_without units id ≡ map (λ (u : UnitState). unit_without u id) units
without_map [] id = refl
without_map (u ∷ units) id = ap (λ (us : List UnitState). unit_without u id ∷ us) (without_map units id)

pub kept_map : (drops : Process → Bool) (units : List UnitState) → kept_units drops units ≡ map (unit_kept drops) units
kept_map drops [] = refl
kept_map drops (u ∷ units) = ap (λ (us : List UnitState). unit_kept drops u ∷ us) (kept_map drops units)

pub choice_map : (holds : List Nexus) (units : List UnitState)
    → units_after_choice holds units ≡ map (unit_after_choice holds) units
choice_map holds [] = refl
choice_map holds (u ∷ units) = ap (λ (us : List UnitState). unit_after_choice holds u ∷ us) (choice_map holds units)

-- A unit that is found is of that target and number.
abbrev pub is_place : UnitState → ℕ → ℕ → Bool
is_place u t n = u.target == t && u.unit == n

found_place : (units : List UnitState) (t n : ℕ) (u : UnitState) → unit_state_at units t n ≡ Some u
    → is_place u t n ≡ true
found_place [] t n u h = cc
found_place (v ∷ units) t n u h = go (λ k. found_place units t n u k) (is_place v t n) refl h
  where
    go : (unit_state_at units t n ≡ Some u → is_place u t n ≡ true) → (x : Bool) → is_place v t n ≡ x
        → (if x then Some v else unit_state_at units t n) ≡ Some u → is_place u t n ≡ true
    go more true z k = let e : v ≡ u = cc in (λ i. is_place (sym e i) t n) ∙ z
    go more false z k = more k

pub found_target : (units : List UnitState) (t n : ℕ) (u : UnitState) → unit_state_at units t n ≡ Some u → u.target ≡ t
found_target units t n u h = eqb-true u.target t (and_first (u.target == t) (u.unit == n) (found_place units t n u h))

pub found_unit : (units : List UnitState) (t n : ℕ) (u : UnitState) → unit_state_at units t n ≡ Some u → u.unit ≡ n
found_unit units t n u h = eqb-true u.unit n (and_second (u.target == t) (u.unit == n) (found_place units t n u h))

pub place_is : (u : UnitState) (t n : ℕ) → u.target ≡ t → u.unit ≡ n → is_place u t n ≡ true
place_is u t n a b = (λ i. a i == t && b i == n) ∙ (λ i. eq_self t i && eq_self n i)

pub not_both : (u new : UnitState) (t n : ℕ) → (u.target == new.target && u.unit == new.unit) ≡ false
    → is_place u t n ≡ true → is_place new t n ≡ false
not_both u new t n z w = go (is_place new t n) refl
  where
    go : (x : Bool) → is_place new t n ≡ x → is_place new t n ≡ false
    go false k = k
    go true k =
        let one : new.target ≡ t = eqb-true new.target t (and_first (new.target == t) (new.unit == n) k) in
        let two : new.unit ≡ n = eqb-true new.unit n (and_second (new.target == t) (new.unit == n) k) in
        let both : (u.target == new.target && u.unit == new.unit) ≡ true = (λ i. u.target == one i && u.unit == two i)
        ∙ w in
        let no : true ≡ false = sym both ∙ z in
        cc

pub with_unit_at : (units : List UnitState) (new : UnitState) (t n : ℕ) → unit_state_at (with_unit units new) t n
    ≡ (if is_place new t n then (if is_some (unit_state_at units t n) then Some new else None)
    else unit_state_at units t n)
with_unit_at [] new t n = go (is_place new t n)
  where
    go : (x : Bool) → unit_state_at [] t n
        ≡ (if x then (if is_some (unit_state_at [] t n) then Some new else None) else unit_state_at [] t n)
    go true = refl
    go false = refl
with_unit_at (u ∷ units) new t n = go (with_unit_at units new t n) (u.target == new.target && u.unit == new.unit) refl
  where
    same : (x : Bool) → (if x then Some new else unit_state_at units t n)
        ≡ (if x then (if is_some (if x then Some u else unit_state_at units t n) then Some new else None)
        else (if x then Some u else unit_state_at units t n))
    same true = refl
    same false = refl

    other : (x y : Bool) → (x ≡ true → y ≡ false) → unit_state_at (with_unit units new) t n
        ≡ (if y then (if is_some (unit_state_at units t n) then Some new else None) else unit_state_at units t n)
        → (if x then Some u else unit_state_at (with_unit units new) t n)
        ≡ (if y then (if is_some (if x then Some u else unit_state_at units t n) then Some new else None)
        else (if x then Some u else unit_state_at units t n))
    other true y k h = sym (ap (λ (z : Bool). if z then Some new else Some u) (k refl))
    other false y k h = h

    go : unit_state_at (with_unit units new) t n
        ≡ (if is_place new t n then (if is_some (unit_state_at units t n) then Some new else None)
        else unit_state_at units t n) → (x : Bool) → (u.target == new.target && u.unit == new.unit) ≡ x
        → unit_state_at (if x then new ∷ units else u ∷ with_unit units new) t n ≡ (if is_place new t n
        then (if is_some (if is_place u t n then Some u else unit_state_at units t n) then Some new else None)
        else (if is_place u t n then Some u else unit_state_at units t n))
    go rest true z =
        let one : u.target ≡ new.target = eqb-true u.target new.target
        (and_first (u.target == new.target) (u.unit == new.unit) z) in
        let two : u.unit ≡ new.unit = eqb-true u.unit new.unit
        (and_second (u.target == new.target) (u.unit == new.unit) z) in
        let place : is_place new t n ≡ is_place u t n = λ i. (sym one i == t && sym two i == n) in
        same (is_place new t n) ∙ (λ i. if is_place new t n
        then (if is_some (if place i then Some u else unit_state_at units t n) then Some new else None)
        else (if place i then Some u else unit_state_at units t n))
    go rest false z = other (is_place u t n) (is_place new t n) (not_both u new t n z) rest

-- ---- the guests

pub guests_at_append : (guests : List RunningProcess) (g : RunningProcess) (t n : ℕ) → guests_at (guests ++ g ∷ []) t n
    ≡ (if is_of_unit g.process t n then guests_at guests t n ++ g ∷ [] else guests_at guests t n)
guests_at_append [] g t n = go (is_of_unit g.process t n)
  where
    go : (x : Bool) → (if x then g ∷ [] else []) ≡ (if x then g ∷ [] else [])
    go x = refl
guests_at_append (f ∷ guests) g t n =
    go (guests_at_append guests g t n) (is_of_unit f.process t n) (is_of_unit g.process t n)
  where
    inner : (y : Bool) → f ∷ (if y then guests_at guests t n ++ g ∷ [] else guests_at guests t n)
        ≡ (if y then (f ∷ guests_at guests t n) ++ g ∷ [] else f ∷ guests_at guests t n)
    inner true = refl
    inner false = refl

    go : guests_at (guests ++ g ∷ []) t n
        ≡ (if is_of_unit g.process t n then guests_at guests t n ++ g ∷ [] else guests_at guests t n)
        → (x y : Bool) → (if x then f ∷ guests_at (guests ++ g ∷ []) t n else guests_at (guests ++ g ∷ []) t n)
        ≡ (if is_of_unit g.process t n then (if x then f ∷ guests_at guests t n else guests_at guests t n) ++ g ∷ []
        else (if x then f ∷ guests_at guests t n else guests_at guests t n))
    go h true y = ap (λ (gs : List RunningProcess). f ∷ gs) h ∙ inner (is_of_unit g.process t n)
    go h false y = h

pub guests_at_kept : (drops : Process → Bool) (guests : List RunningProcess) (t n : ℕ)
    → guests_at (kept_guests drops guests) t n ≡ kept_guests drops (guests_at guests t n)
guests_at_kept drops [] t n = refl
guests_at_kept drops (g ∷ guests) t n =
    let h : guests_at (kept_guests drops guests) t n ≡ kept_guests drops (guests_at guests t n) = guests_at_kept
    drops guests t n in
    grind (arith, common_steps)

pub guests_at_without : (guests : List RunningProcess) (id : ProcId) (t n : ℕ)
    → guests_at (without_guest guests id) t n ≡ without_guest (guests_at guests t n) id
guests_at_without [] id t n = refl
guests_at_without (g ∷ guests) id t n =
    let h : guests_at (without_guest guests id) t n ≡ without_guest (guests_at guests t n) id = guests_at_without
    guests id t n in
    grind (arith, common_steps)

pub none_at : (commands : List CmdDef) → command_at commands 0 ≡ None
none_at [] = refl
none_at (x ∷ commands) = refl

pub number_same : (a : Option ℕ) → same_number a a ≡ true
number_same None = refl
number_same (Some n) = eq-eqb n n refl

pub never_first : (cs : List CmdDef) (c : CmdDef) → command_at cs zero ≡ Some c → ⊥
never_first [] c e = cc
never_first (d ∷ cs) c e = cc
