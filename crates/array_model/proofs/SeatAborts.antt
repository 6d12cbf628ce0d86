-- What aborts and resets leave of a seat.
use Rattle.std.proofs.Common.{ℕ, ◌≡◌, Bool, true, false, List, [], ◌∷◌, ◌∙◌, refl, sym, ap, subst, Option, Some, None}
use Rattle.std.specs.Prelude.{if◌then◌else◌, not, ◌&&◌, ◌||◌, ◌==◌, is_some}
use Rattle.std.specs.List.{list_any}
use Rattle.std.proofs.lemmas.Bool.{eqb-true}
use Rattle.bus_base.specs.declared.AbortKind.TheVariants as aborts
use Rattle.cdb_codec.specs.declared.Sense.{Sense}
use Rattle.scenario.specs.declared.value.HostDef.{HostDef}
use Rattle.scenario.specs.Value.{ScenarioValue}
use Rattle.array_model.specs.Processes.{Process}
use Rattle.array_model.specs.Execution.{reset_occurred, commands_cleared}
use Rattle.array_model.specs.Units.{RunningProcess, UnitState, Nexus, Array, same_nexus, sense_of_nexus, senses_without}
use Rattle.array_model.specs.Units.{unit_state_at, nexus_of}
use Rattle.array_model.specs.Steps.{kept_processes, kept_running, kept_guests, without_dropped, is_of_unit, has_tag}
use Rattle.array_model.specs.Steps.{is_reset_pending, reset_attention, cleared_attention, reset_attentions}
use Rattle.array_model.specs.Steps.{unit_reset_attentions, cleared_attentions, processes_of, unit_processes}
use Rattle.array_model.specs.Steps.{kept_nexuses, kept_senses, abort_step, reset_step}
use Rattle.array_model.specs.Seats
use Rattle.array_model.specs.SoundArray.{IsOwn, AllOwn, IsOwnRunning, IsOwnUnit, IsSound}
use Rattle.array_model.proofs.SeatLookups.{same_nexus_is, senses_without_at, sense_put_at, nexuses_without_at}
use Rattle.array_model.proofs.SeatLookups.{mapped_at}
use Rattle.array_model.proofs.SeatLookups.{kept_map, is_place, found_target, found_unit, guests_at_kept}
use Rattle.array_model.proofs.SeatOwn.{own_found}
use Rattle.bus_base.proofs.Tests.{and_first, and_second, and_false, and_true, eq_self}

-- ---- the processes that are dropped

pub kept_at : (a : Array) (drops : Process → Bool) (t n : ℕ)
    → Seats.seat_of (without_dropped a drops) t n ≡ Seats.seat_kept drops (Seats.seat_of a t n)
kept_at a drops t n = λ i. record (Seats.seat_of a t n) {
  unit = ((λ j. unit_state_at (kept_map drops a.units j) t n)
      ∙ mapped_at (Seats.unit_kept drops) (λ u. refl) (λ u. refl) a.units t n) i;
  guests = guests_at_kept drops a.guests t n i;
}

of_place : (s : ScenarioValue) (t n : ℕ) (q : Process) → IsOwn s t n q → is_of_unit q t n ≡ true
of_place s t n q b = (λ i. b.target_is i == t && b.unit_is i == n) ∙ (λ i. eq_self t i && eq_self n i)

kept_waiting : (s : ScenarioValue) (t n : ℕ) (one two : Process → Bool)
    → ((q : Process) → is_of_unit q t n ≡ true → one q ≡ two q) → (waiting : List Process) → AllOwn s t n waiting
    → kept_processes one waiting ≡ kept_processes two waiting
kept_waiting s t n one two h [] b = refl
kept_waiting s t n one two h (q ∷ waiting) b =
    λ i. if h q (of_place s t n q b.0) i then kept_waiting s t n one two h waiting b.1 i
    else q ∷ kept_waiting s t n one two h waiting b.1 i

kept_current : (s : ScenarioValue) (t n : ℕ) (one two : Process → Bool)
    → ((q : Process) → is_of_unit q t n ≡ true → one q ≡ two q) → (current : Option RunningProcess)
    → IsOwnRunning s t n current → kept_running one current ≡ kept_running two current
kept_current s t n one two h None b = refl
kept_current s t n one two h (Some r) b = λ i. if h r.process (of_place s t n r.process b) i then None else Some r

kept_there : (t n : ℕ) (one two : Process → Bool)
    → ((q : Process) → is_of_unit q t n ≡ true → one q ≡ two q) → (guests : List RunningProcess)
    → kept_guests one (Seats.guests_at guests t n) ≡ kept_guests two (Seats.guests_at guests t n)
kept_there t n one two h [] = refl
kept_there t n one two h (g ∷ guests) = go (kept_there t n one two h guests) (is_of_unit g.process t n) refl
  where
    go : kept_guests one (Seats.guests_at guests t n) ≡ kept_guests two (Seats.guests_at guests t n)
        → (x : Bool) → is_of_unit g.process t n ≡ x
        → kept_guests one (if x then g ∷ Seats.guests_at guests t n else Seats.guests_at guests t n)
        ≡ kept_guests two (if x then g ∷ Seats.guests_at guests t n else Seats.guests_at guests t n)
    go k true z = λ i. if h g.process z i then k i else g ∷ k i
    go k false z = k

-- Two tests that agree on the processes of a seat leave the same of it.
pub kept_same : (s : ScenarioValue) (a : Array) (t n : ℕ) (one two : Process → Bool)
    → IsSound s a → ((q : Process) → is_of_unit q t n ≡ true → one q ≡ two q)
    → Seats.seat_kept one (Seats.seat_of a t n) ≡ Seats.seat_kept two (Seats.seat_of a t n)
kept_same s a t n one two b h = λ i. record
    (Seats.seat_of a t n) { unit = go (unit_state_at a.units t n) refl i; guests = kept_there t n one two h a.guests i }
  where
    inner : (u : UnitState) → AllOwn s t n u.waiting → IsOwnRunning s t n u.current
        → Seats.unit_kept one u ≡ Seats.unit_kept two u
    inner u w c = λ i. record u {
      waiting = kept_waiting s t n one two h u.waiting w i;
      current = kept_current s t n one two h u.current c i;
    }

    go : (x : Option UnitState) → unit_state_at a.units t n ≡ x
        → Seats.unit_mapped (Seats.unit_kept one) x ≡ Seats.unit_mapped (Seats.unit_kept two) x
    go None z = refl
    go (Some u) z =
        let own : IsOwnUnit s u = own_found s a.units t n u b.units z in
        let first : u.target ≡ t = found_target a.units t n u z in
        let second : u.unit ≡ n = found_unit a.units t n u z in
        ap (λ (v : UnitState). Some v) (inner u (subst (λ (k : ℕ). AllOwn s k n u.waiting) first
        (subst (λ (k : ℕ). AllOwn s u.target k u.waiting) second own.waiting))
        (subst (λ (k : ℕ). IsOwnRunning s k n u.current) first
        (subst (λ (k : ℕ). IsOwnRunning s u.target k u.current) second own.current)))

none_waiting : (waiting : List Process) → kept_processes (λ p. false) waiting ≡ waiting
none_waiting [] = refl
none_waiting (q ∷ waiting) = ap (λ (w : List Process). q ∷ w) (none_waiting waiting)

none_current : (current : Option RunningProcess) → kept_running (λ p. false) current ≡ current
none_current None = refl
none_current (Some r) = refl

none_guests : (guests : List RunningProcess) → kept_guests (λ p. false) guests ≡ guests
none_guests [] = refl
none_guests (g ∷ guests) = ap (λ (w : List RunningProcess). g ∷ w) (none_guests guests)

pub kept_all : (seat : Seats.Seat) → Seats.seat_kept (λ p. false) seat ≡ seat
kept_all seat = λ i. record seat { unit = go seat.unit i; guests = none_guests seat.guests i }
  where
    go : (x : Option UnitState) → Seats.unit_mapped (Seats.unit_kept (λ p. false)) x ≡ x
    go None = refl
    go (Some u) = λ i. Some (record u { waiting = none_waiting u.waiting i; current = none_current u.current i })

-- ---- by initiator

nexus_here : (t n i k : ℕ) → same_nexus (Seats.nexus_at t n i) (Seats.nexus_at t n k) ≡ (i == k)
nexus_here t n i k = (λ j. (i == k) && (eq_self t j && eq_self n j)) ∙ and_true (i == k)

nexus_there : (target unit t n i k : ℕ) → (target == t && unit == n) ≡ false
    → same_nexus (Seats.nexus_at target unit i) (Seats.nexus_at t n k) ≡ false
nexus_there target unit t n i k o = (λ j. (i == k) && o j) ∙ and_false (i == k)

-- A process of another unit is of this one where the two are one.
elsewhere : (target unit t n : ℕ) (q : Process) → (target == t && unit == n) ≡ false → is_of_unit q t n ≡ true
    → is_of_unit q target unit ≡ false
elsewhere target unit t n q o h = go (is_of_unit q target unit) refl
  where
    go : (x : Bool) → is_of_unit q target unit ≡ x → is_of_unit q target unit ≡ false
    go false z = z
    go true z =
        let one : q.target ≡ target = eqb-true q.target target (and_first (q.target == target) (q.unit == unit) z) in
        let two : q.unit ≡ unit = eqb-true q.unit unit (and_second (q.target == target) (q.unit == unit) z) in
        let yes : (target == t && unit == n) ≡ true = (λ i. sym one i == t && sym two i == n) ∙ h in
        let no : true ≡ false = sym yes ∙ o in cc

-- ---- ABORT

pub abort_own : (s : ScenarioValue) (a : Array) (i t n : ℕ) → IsSound s a
    → Seats.seat_of (abort_step s a i t n aborts.All) t n ≡ Seats.seat_after_abort i (Seats.seat_of a t n)
abort_own s a i t n b = λ j. record (kept j) {
  senses = λ k. (senses_without_at a.senses (Seats.nexus_at t n i) (Seats.nexus_at t n k)
      ∙ (λ m. if nexus_here t n i k m then None else sense_of_nexus a.senses (Seats.nexus_at t n k))) j;
  hold = λ k. (nexuses_without_at a.holds (Seats.nexus_at t n i) (Seats.nexus_at t n k)
      ∙ (λ m. if nexus_here t n i k m then false else Seats.in_hold a.holds (Seats.nexus_at t n k))) j;
}
  where
    kept : Seats.seat_of (without_dropped a (λ p. p.initiator == i && is_of_unit p t n)) t n
        ≡ Seats.seat_kept (λ p. p.initiator == i) (Seats.seat_of a t n)
    kept = kept_at a (λ p. p.initiator == i && is_of_unit p t n) t n
        ∙ kept_same s a t n (λ p. p.initiator == i && is_of_unit p t n) (λ p. p.initiator == i) b
        (λ q h. (λ m. (q.initiator == i) && h m) ∙ and_true (q.initiator == i))

pub abort_other : (s : ScenarioValue) (a : Array) (i target unit t n : ℕ)
    → IsSound s a → (target == t && unit == n) ≡ false
    → Seats.seat_of (abort_step s a i target unit aborts.All) t n ≡ Seats.seat_of a t n
abort_other s a i target unit t n b o = λ j. record (kept j) {
  senses = λ k. (senses_without_at a.senses (Seats.nexus_at target unit i) (Seats.nexus_at t n k)
      ∙ (λ m. if nexus_there target unit t n i k o m then None else sense_of_nexus a.senses (Seats.nexus_at t n k))) j;
  hold = λ k. (nexuses_without_at a.holds (Seats.nexus_at target unit i) (Seats.nexus_at t n k)
      ∙ (λ m. if nexus_there target unit t n i k o m then false else Seats.in_hold a.holds (Seats.nexus_at t n k))) j;
}
  where
    kept : Seats.seat_of (without_dropped a (λ p. p.initiator == i && is_of_unit p target unit)) t n
        ≡ Seats.seat_of a t n
    kept = kept_at a (λ p. p.initiator == i && is_of_unit p target unit) t n
        ∙ kept_same s a t n (λ p. p.initiator == i && is_of_unit p target unit) (λ p. false) b
        (λ q h. (λ m. (q.initiator == i) && elsewhere target unit t n q o h m) ∙ and_false (q.initiator == i))
        ∙ kept_all (Seats.seat_of a t n)

-- ---- ABORT TAG

pub tag_own : (s : ScenarioValue) (a : Array) (i t n tag : ℕ) → IsSound s a
    → Seats.seat_of (abort_step s a i t n (aborts.Tag tag)) t n ≡ Seats.seat_after_abort_tag i tag (Seats.seat_of a t n)
tag_own s a i t n tag b = kept_at a (λ p. p.initiator == i && is_of_unit p t n && has_tag p.tag tag) t n
    ∙ kept_same s a t n (λ p. p.initiator == i && is_of_unit p t n && has_tag p.tag tag)
    (λ p. p.initiator == i && has_tag p.tag tag) b (λ q h. (λ m. ((q.initiator == i) && h m) && has_tag q.tag tag)
    ∙ (λ m. and_true (q.initiator == i) m && has_tag q.tag tag))

pub tag_other : (s : ScenarioValue) (a : Array) (i target unit t n tag : ℕ)
    → IsSound s a → (target == t && unit == n) ≡ false
    → Seats.seat_of (abort_step s a i target unit (aborts.Tag tag)) t n ≡ Seats.seat_of a t n
tag_other s a i target unit t n tag b o =
    kept_at a (λ p. p.initiator == i && is_of_unit p target unit && has_tag p.tag tag) t n
    ∙ kept_same s a t n (λ p. p.initiator == i && is_of_unit p target unit && has_tag p.tag tag) (λ p. false) b
    (λ q h. (λ m. ((q.initiator == i) && elsewhere target unit t n q o h m) && has_tag q.tag tag)
    ∙ (λ m. and_false (q.initiator == i) m && has_tag q.tag tag))
    ∙ kept_all (Seats.seat_of a t n)

-- ---- CLEAR QUEUE

told_twice : (one more : Bool) (x : Option Sense)
    → Seats.attention_if_told more (Seats.attention_if_told one x) ≡ Seats.attention_if_told (one || more) x
told_twice one more x = go one more (is_reset_pending x) refl
  where
    go : (one more y : Bool) → is_reset_pending x ≡ y
        → Seats.attention_if_told more (if one && not y then Some commands_cleared else x)
        ≡ (if (one || more) && not y then Some commands_cleared else x)
    go true true true z = (λ i. if not (z i) then Some commands_cleared else x)
    go true false true z = refl
    go true true false z = refl
    go true false false z = refl
    go false true y z = (λ i. if not (z i) then Some commands_cleared else x)
    go false false y z = refl

cleared_at : (a : Array) (p q : Nexus) → sense_of_nexus (cleared_attention a p).attentions q
    ≡ Seats.attention_if_told (same_nexus p q) (sense_of_nexus a.attentions q)
cleared_at a p q = go (is_reset_pending (sense_of_nexus a.attentions p)) refl
  where
    put : (x : Bool) → same_nexus p q ≡ x → is_reset_pending (sense_of_nexus a.attentions p) ≡ false
        → (if x then Some commands_cleared else sense_of_nexus a.attentions q)
        ≡ (if x && not (is_reset_pending (sense_of_nexus a.attentions q)) then Some commands_cleared
        else sense_of_nexus a.attentions q)
    put true w z =
        let e : is_reset_pending (sense_of_nexus a.attentions q) ≡ false =
        (λ j. is_reset_pending (sense_of_nexus a.attentions (sym (same_nexus_is p q w) j))) ∙ z in
        λ i. if not (sym e i) then Some commands_cleared else sense_of_nexus a.attentions q
    put false w z = refl

    stay : (x : Bool) → same_nexus p q ≡ x → is_reset_pending (sense_of_nexus a.attentions p) ≡ true
        → sense_of_nexus a.attentions q
        ≡ (if x && not (is_reset_pending (sense_of_nexus a.attentions q)) then Some commands_cleared
        else sense_of_nexus a.attentions q)
    stay true w z =
        let e : is_reset_pending (sense_of_nexus a.attentions q) ≡ true =
        (λ j. is_reset_pending (sense_of_nexus a.attentions (sym (same_nexus_is p q w) j))) ∙ z in
        λ i. if not (sym e i) then Some commands_cleared else sense_of_nexus a.attentions q
    stay false w z = refl

    go : (x : Bool) → is_reset_pending (sense_of_nexus a.attentions p) ≡ x → sense_of_nexus
        (if x then a else record a { attentions = (p, commands_cleared) ∷ senses_without a.attentions p }).attentions q
        ≡ Seats.attention_if_told (same_nexus p q) (sense_of_nexus a.attentions q)
    go true z = stay (same_nexus p q) refl z
    go false z = sense_put_at a.attentions p commands_cleared q ∙ put (same_nexus p q) refl z

-- Processes that are all of a unit, and processes of which none is.
abbrev AllAre : Bool → ℕ → ℕ → List Process → Type 0
AllAre x t n [] = Unit {0}
AllAre x t n (q ∷ processes) = (is_of_unit q t n ≡ x) × AllAre x t n processes

own_all : (s : ScenarioValue) (t n : ℕ) (waiting : List Process) → AllOwn s t n waiting → AllAre true t n waiting
own_all s t n [] b = tt
own_all s t n (q ∷ waiting) b = (of_place s t n q b.0, own_all s t n waiting b.1)

unit_all : (s : ScenarioValue) (a : Array) (t n : ℕ) → IsSound s a
    → AllAre true t n (unit_processes (unit_state_at a.units t n))
unit_all s a t n b = go (unit_state_at a.units t n) refl
  where
    with_current : (u : UnitState) → AllOwn s t n u.waiting → (x : Option RunningProcess) → IsOwnRunning s t n x
        → AllAre true t n (processes_of x u.waiting)
    with_current u w None c = own_all s t n u.waiting w
    with_current u w (Some r) c = (of_place s t n r.process c, own_all s t n u.waiting w)

    go : (x : Option UnitState) → unit_state_at a.units t n ≡ x → AllAre true t n (unit_processes x)
    go None z = tt
    go (Some u) z =
        let own : IsOwnUnit s u = own_found s a.units t n u b.units z in
        let first : u.target ≡ t = found_target a.units t n u z in
        let second : u.unit ≡ n = found_unit a.units t n u z in
        with_current u (subst (λ (k : ℕ). AllOwn s k n u.waiting) first
        (subst (λ (k : ℕ). AllOwn s u.target k u.waiting) second own.waiting)) u.current
        (subst (λ (k : ℕ). IsOwnRunning s k n u.current) first
        (subst (λ (k : ℕ). IsOwnRunning s u.target k u.current) second own.current))

none_all : (target unit t n : ℕ) (processes : List Process) → (target == t && unit == n) ≡ false
    → AllAre true target unit processes → AllAre false t n processes
none_all target unit t n [] o b = tt
none_all target unit t n (q ∷ processes) o b = (go (is_of_unit q t n) refl, none_all target unit t n processes o b.1)
  where
    go : (x : Bool) → is_of_unit q t n ≡ x → is_of_unit q t n ≡ false
    go false z = z
    go true z = let no : false ≡ true = sym (elsewhere target unit t n q o z) ∙ b.0 in cc

nexus_by : (q : Process) (t n k : ℕ) (x : Bool) → is_of_unit q t n ≡ x
    → same_nexus (nexus_of q) (Seats.nexus_at t n k) ≡ ((q.initiator == k) && x)
nexus_by q t n k x z = λ i. (q.initiator == k) && z i

-- A seat with these attentions.
abbrev with_attentions : Seats.Seat → (ℕ → Option Sense) → Seats.Seat
with_attentions seat attentions = record seat { attentions = attentions }

-- An array after one of the processes that are lost.
abbrev told_of : Bool → Process → Array → Array
told_of is_sender q a = if is_sender then a else cleared_attention a (nexus_of q)

told_seat : (x : Bool) (q : Process) (a : Array) (t n : ℕ) (f : ℕ → Option Sense)
    → with_attentions (Seats.seat_of (told_of x q a) t n) f ≡ with_attentions (Seats.seat_of a t n) f
told_seat true q a t n f = refl
told_seat false q a t n f = go (is_reset_pending (sense_of_nexus a.attentions (nexus_of q)))
  where
    go : (y : Bool) → with_attentions (Seats.seat_of (if y then a else record a {
      attentions = (nexus_of q, commands_cleared) ∷ senses_without a.attentions (nexus_of q);
    }) t n) f ≡ with_attentions (Seats.seat_of a t n) f
    go true = refl
    go false = refl

told_sense : (x : Bool) (q : Process) (a : Array) (t n k : ℕ) (there : Bool) → is_of_unit q t n ≡ there
    → sense_of_nexus (told_of x q a).attentions (Seats.nexus_at t n k) ≡ Seats.attention_if_told
    (((q.initiator == k) && there) && not x) (sense_of_nexus a.attentions (Seats.nexus_at t n k))
told_sense true q a t n k there z = λ i. Seats.attention_if_told (sym (and_false ((q.initiator == k) && there)) i)
    (sense_of_nexus a.attentions (Seats.nexus_at t n k))
told_sense false q a t n k there z = cleared_at a (nexus_of q) (Seats.nexus_at t n k)
    ∙ (λ i. Seats.attention_if_told ((nexus_by q t n k there z ∙ sym (and_true ((q.initiator == k) && there))) i)
    (sense_of_nexus a.attentions (Seats.nexus_at t n k)))

cleared_own : (by : ℕ) (lost : List Process) (t n : ℕ) (a : Array) → AllAre true t n lost
    → Seats.seat_of (cleared_attentions by lost a) t n ≡ with_attentions (Seats.seat_of a t n)
    (λ k. Seats.attention_if_told (Seats.is_told by lost k) (sense_of_nexus a.attentions (Seats.nexus_at t n k)))
cleared_own by [] t n a b = refl
cleared_own by (q ∷ lost) t n a b = cleared_own by lost t n (told_of (q.initiator == by) q a) b.1
    ∙ told_seat (q.initiator == by) q a t n (λ k. Seats.attention_if_told (Seats.is_told by lost k)
    (sense_of_nexus (told_of (q.initiator == by) q a).attentions (Seats.nexus_at t n k)))
    ∙ (λ i. with_attentions (Seats.seat_of a t n)
    (λ k. Seats.attention_if_told (Seats.is_told by lost k) (told_sense (q.initiator == by) q a t n k true b.0 i)))
    ∙ (λ i. with_attentions (Seats.seat_of a t n)
    (λ k. Seats.attention_if_told (Seats.is_told by lost k) (Seats.attention_if_told
    (and_true (q.initiator == k) i && not (q.initiator == by)) (sense_of_nexus a.attentions (Seats.nexus_at t n k)))))
    ∙ (λ i. with_attentions (Seats.seat_of a t n) (λ k. told_twice ((q.initiator == k) && not (q.initiator == by))
    (Seats.is_told by lost k) (sense_of_nexus a.attentions (Seats.nexus_at t n k)) i))

cleared_other : (by : ℕ) (lost : List Process) (t n : ℕ) (a : Array) → AllAre false t n lost
    → Seats.seat_of (cleared_attentions by lost a) t n ≡ Seats.seat_of a t n
cleared_other by [] t n a b = refl
cleared_other by (q ∷ lost) t n a b = cleared_other by lost t n (told_of (q.initiator == by) q a) b.1
    ∙ told_seat (q.initiator == by) q a t n
    (λ k. sense_of_nexus (told_of (q.initiator == by) q a).attentions (Seats.nexus_at t n k))
    ∙ (λ i. with_attentions (Seats.seat_of a t n) (λ k. told_sense (q.initiator == by) q a t n k false b.0 i))
    ∙ (λ i. with_attentions (Seats.seat_of a t n) (λ k. Seats.attention_if_told
    (and_false (q.initiator == k) i && not (q.initiator == by)) (sense_of_nexus a.attentions (Seats.nexus_at t n k))))

pub queue_own : (s : ScenarioValue) (a : Array) (i t n : ℕ) → IsSound s a
    → Seats.seat_of (abort_step s a i t n aborts.WholeQueue) t n ≡ Seats.seat_after_clear_queue i (Seats.seat_of a t n)
queue_own s a i t n b = cleared_own i (unit_processes (unit_state_at a.units t n)) t n
    (without_dropped a (λ p. is_of_unit p t n)) (unit_all s a t n b)
    ∙ (λ j. with_attentions
    ((kept_at a (λ p. is_of_unit p t n) t n ∙ kept_same s a t n (λ p. is_of_unit p t n) (λ p. true) b (λ q h. h)) j)
    (λ k. Seats.attention_if_told (Seats.is_told i (unit_processes (unit_state_at a.units t n)) k)
    (sense_of_nexus a.attentions (Seats.nexus_at t n k))))

pub queue_other : (s : ScenarioValue) (a : Array) (i target unit t n : ℕ)
    → IsSound s a → (target == t && unit == n) ≡ false
    → Seats.seat_of (abort_step s a i target unit aborts.WholeQueue) t n ≡ Seats.seat_of a t n
queue_other s a i target unit t n b o = cleared_other i
    (unit_processes (unit_state_at a.units target unit)) t n (without_dropped a (λ p. is_of_unit p target unit))
    (none_all target unit t n (unit_processes (unit_state_at a.units target unit)) o (unit_all s a target unit b))
    ∙ kept_at a (λ p. is_of_unit p target unit) t n
    ∙ kept_same s a t n (λ p. is_of_unit p target unit) (λ p. false) b (λ q h. elsewhere target unit t n q o h)
    ∙ kept_all (Seats.seat_of a t n)

-- ---- BUS DEVICE RESET and RST

put_twice : (x y : Bool) (one : Option Sense) (old : Option Sense)
    → (if y then one else (if x then one else old)) ≡ (if x || y then one else old)
put_twice true true one old = refl
put_twice true false one old = refl
put_twice false y one old = refl

or_and : (x y z : Bool) → ((z && x) || (z && y)) ≡ (z && (x || y))
or_and x y true = refl
or_and x y false = refl

swapped : (x y : Bool) → (x && y) ≡ (y && x)
swapped true true = refl
swapped true false = refl
swapped false true = refl
swapped false false = refl

hosts_at : (hosts : List HostDef) (target unit t n : ℕ) (a : Array)
    → Seats.seat_of (reset_attentions hosts target unit a) t n ≡ with_attentions (Seats.seat_of a t n)
    (λ k. if (target == t && unit == n) && Seats.is_initiator hosts k then Some reset_occurred
    else sense_of_nexus a.attentions (Seats.nexus_at t n k))
hosts_at [] target unit t n a = λ i. with_attentions (Seats.seat_of a t n)
    (λ k. if sym (and_false (target == t && unit == n)) i then Some reset_occurred
    else sense_of_nexus a.attentions (Seats.nexus_at t n k))
hosts_at (h ∷ hosts) target unit t n a =
    hosts_at hosts target unit t n (reset_attention a (record { initiator = h.dev; target = target; unit = unit }))
    ∙ (λ i. with_attentions (Seats.seat_of a t n) (λ k. one k i))
  where
    one : (k : ℕ) → (if (target == t && unit == n) && Seats.is_initiator hosts k then Some reset_occurred
        else sense_of_nexus (reset_attention a (record { initiator = h.dev; target = target; unit = unit })).attentions
        (Seats.nexus_at t n k))
        ≡ (if (target == t && unit == n) && ((h.dev == k) || Seats.is_initiator hosts k) then Some reset_occurred
        else sense_of_nexus a.attentions (Seats.nexus_at t n k))
    one k = (λ i. if (target == t && unit == n) && Seats.is_initiator hosts k then Some reset_occurred
        else sense_put_at a.attentions (Seats.nexus_at target unit h.dev) reset_occurred (Seats.nexus_at t n k) i)
        ∙ put_twice ((h.dev == k) && (target == t && unit == n))
        ((target == t && unit == n) && Seats.is_initiator hosts k)
        (Some reset_occurred) (sense_of_nexus a.attentions (Seats.nexus_at t n k))
        ∙ (λ i. if swapped (h.dev == k) (target == t && unit == n) i
        || ((target == t && unit == n) && Seats.is_initiator hosts k) then Some reset_occurred
        else sense_of_nexus a.attentions (Seats.nexus_at t n k))
        ∙ (λ i. if or_and (h.dev == k) (Seats.is_initiator hosts k) (target == t && unit == n) i
        then Some reset_occurred else sense_of_nexus a.attentions (Seats.nexus_at t n k))

-- One of these units is this one and is concerned.
abbrev is_hit : (UnitState → Bool) → List UnitState → ℕ → ℕ → Bool
is_hit is_one units t n = list_any (λ (u : UnitState). is_one u && is_place u t n) units

units_at : (hosts : List HostDef) (is_one : UnitState → Bool) (units : List UnitState) (t n : ℕ) (a : Array)
    → Seats.seat_of (unit_reset_attentions hosts units is_one a) t n ≡ with_attentions (Seats.seat_of a t n)
    (λ k. if is_hit is_one units t n && Seats.is_initiator hosts k then Some reset_occurred
    else sense_of_nexus a.attentions (Seats.nexus_at t n k))
units_at hosts is_one [] t n a = refl
units_at hosts is_one (u ∷ units) t n a =
    units_at hosts is_one units t n (if is_one u then reset_attentions hosts u.target u.unit a else a)
    ∙ (λ i. with_attentions (first (is_one u) i)
    (λ k. if is_hit is_one units t n && Seats.is_initiator hosts k then Some reset_occurred
    else (first (is_one u) i).attentions k)) ∙ (λ i. with_attentions (Seats.seat_of a t n) (λ k. joined k i))
  where
    first : (x : Bool) → Seats.seat_of (if x then reset_attentions hosts u.target u.unit a else a) t n ≡ with_attentions
        (Seats.seat_of a t n) (λ k. if (x && is_place u t n) && Seats.is_initiator hosts k then Some reset_occurred
        else sense_of_nexus a.attentions (Seats.nexus_at t n k))
    first true = hosts_at hosts u.target u.unit t n a
    first false = refl

    spread : (x y z : Bool) → ((x && z) || (y && z)) ≡ ((x || y) && z)
    spread true true true = refl
    spread true true false = refl
    spread true false true = refl
    spread true false false = refl
    spread false y z = refl

    joined : (k : ℕ) → (if is_hit is_one units t n && Seats.is_initiator hosts k then Some reset_occurred
        else (if (is_one u && is_place u t n) && Seats.is_initiator hosts k then Some reset_occurred
        else sense_of_nexus a.attentions (Seats.nexus_at t n k)))
        ≡ (if ((is_one u && is_place u t n) || is_hit is_one units t n) && Seats.is_initiator hosts k
        then Some reset_occurred else sense_of_nexus a.attentions (Seats.nexus_at t n k))
    joined k = put_twice ((is_one u && is_place u t n) && Seats.is_initiator hosts k)
        (is_hit is_one units t n && Seats.is_initiator hosts k)
        (Some reset_occurred) (sense_of_nexus a.attentions (Seats.nexus_at t n k))
        ∙ (λ i. if spread (is_one u && is_place u t n) (is_hit is_one units t n) (Seats.is_initiator hosts k) i
        then Some reset_occurred else sense_of_nexus a.attentions (Seats.nexus_at t n k))

hit_all : (is_one : UnitState → Bool) (units : List UnitState) (t n : ℕ)
    → ((u : UnitState) → u.target ≡ t → is_one u ≡ true) → is_hit is_one units t n ≡ is_some (unit_state_at units t n)
hit_all is_one [] t n h = refl
hit_all is_one (u ∷ units) t n h = go (is_place u t n) refl (hit_all is_one units t n h)
  where
    go : (x : Bool) → is_place u t n ≡ x → is_hit is_one units t n ≡ is_some (unit_state_at units t n)
        → ((is_one u && x) || is_hit is_one units t n) ≡ is_some (if x then Some u else unit_state_at units t n)
    go true z k = λ i. (h u (eqb-true u.target t (and_first (u.target == t) (u.unit == n) z)) i && true)
        || is_hit is_one units t n
    go false z k = (λ i. and_false (is_one u) i || is_hit is_one units t n) ∙ k

hit_none : (target : ℕ) (units : List UnitState) (t n : ℕ) → (target == t) ≡ false
    → is_hit (λ u. u.target == target) units t n ≡ false
hit_none target [] t n o = refl
hit_none target (u ∷ units) t n o = (λ i. go (is_place u t n) refl i || hit_none target units t n o i)
  where
    go : (x : Bool) → is_place u t n ≡ x → ((u.target == target) && x) ≡ false
    go false z = and_false (u.target == target)
    go true z = inner (u.target == target) refl
      where
        inner : (y : Bool) → (u.target == target) ≡ y → (y && true) ≡ false
        inner false w = refl
        inner true w =
            let one : u.target ≡ t = eqb-true u.target t (and_first (u.target == t) (u.unit == n) z) in
            let two : u.target ≡ target = eqb-true u.target target w in
            let yes : (target == t) ≡ true = (λ i. (sym two ∙ one) i == t) ∙ eq_self t in
            let no : true ≡ false = sym yes ∙ o in cc

dropped_senses : (drops : Nexus → Bool) (entries : List (Nexus × Sense)) (q : Nexus)
    → sense_of_nexus (kept_senses drops entries) q ≡ (if drops q then None else sense_of_nexus entries q)
dropped_senses drops [] q = go (drops q)
  where
    go : (x : Bool) → sense_of_nexus [] q ≡ (if x then None else sense_of_nexus [] q)
    go true = refl
    go false = refl
dropped_senses drops (e ∷ entries) q = go (dropped_senses drops entries q) (drops e.0) refl (same_nexus e.0 q) refl
  where
    pull : (x : Bool) → (if x then None else sense_of_nexus entries q) ≡ (if x then None else sense_of_nexus entries q)
    pull x = refl

    go : sense_of_nexus (kept_senses drops entries) q ≡ (if drops q then None else sense_of_nexus entries q)
        → (x : Bool) → drops e.0 ≡ x → (y : Bool) → same_nexus e.0 q ≡ y
        → sense_of_nexus (if x then kept_senses drops entries else e ∷ kept_senses drops entries) q
        ≡ (if drops q then None else (if y then Some e.1 else sense_of_nexus entries q))
    go h true z true w =
        let hit : drops q ≡ true = (λ i. drops (sym (same_nexus_is e.0 q w) i)) ∙ z in
        h ∙ (λ i. if hit i then None else sense_of_nexus entries q) ∙ (λ i. if sym hit i then None else Some e.1)
    go h true z false w = h
    go h false z true w =
        let miss : drops q ≡ false = (λ i. drops (sym (same_nexus_is e.0 q w) i)) ∙ z in
        (λ i. if w i then Some e.1 else sense_of_nexus (kept_senses drops entries) q)
        ∙ (λ i. if sym miss i then None else Some e.1)
    go h false z false w = (λ i. if w i then Some e.1 else h i)

dropped_holds : (drops : Nexus → Bool) (holds : List Nexus) (q : Nexus)
    → Seats.in_hold (kept_nexuses drops holds) q ≡ (if drops q then false else Seats.in_hold holds q)
dropped_holds drops [] q = go (drops q)
  where
    go : (x : Bool) → false ≡ (if x then false else false)
    go true = refl
    go false = refl
dropped_holds drops (e ∷ holds) q = go (dropped_holds drops holds q) (drops e) refl (same_nexus e q) refl
  where
    go : Seats.in_hold (kept_nexuses drops holds) q ≡ (if drops q then false else Seats.in_hold holds q)
        → (x : Bool) → drops e ≡ x → (y : Bool) → same_nexus e q ≡ y
        → Seats.in_hold (if x then kept_nexuses drops holds else e ∷ kept_nexuses drops holds) q
        ≡ (if drops q then false else (y || Seats.in_hold holds q))
    go h true z true w =
        let hit : drops q ≡ true = (λ i. drops (sym (same_nexus_is e q w) i)) ∙ z in
        h ∙ (λ i. if hit i then false else Seats.in_hold holds q) ∙ (λ i. if sym hit i then false else true)
    go h true z false w = h
    go h false z true w =
        let miss : drops q ≡ false = (λ i. drops (sym (same_nexus_is e q w) i)) ∙ z in
        (λ i. w i || Seats.in_hold (kept_nexuses drops holds) q) ∙ (λ i. if sym miss i then false else true)
    go h false z false w = (λ i. w i || h i)

pub reset_at : (s : ScenarioValue) (a : Array) (t n : ℕ)
    → Seats.seat_of (reset_step s a) t n ≡ Seats.seat_after_reset s.hosts (Seats.seat_of a t n)
reset_at s a t n =
    units_at s.hosts (λ u. true) a.units t n (record (without_dropped a (λ p. true)) { senses = []; holds = [] })
    ∙ (λ i. record (kept_at a (λ p. true) t n i) {
      senses = λ k. None;
      hold = λ k. false;
      attentions = λ k. if hit_all (λ u. true) a.units t n (λ u e. refl) i && Seats.is_initiator s.hosts k
          then Some reset_occurred else sense_of_nexus a.attentions (Seats.nexus_at t n k);
    })

pub device_own : (s : ScenarioValue) (a : Array) (i target unit n : ℕ) → IsSound s a
    → Seats.seat_of (abort_step s a i target unit aborts.Device) target n
    ≡ Seats.seat_after_reset s.hosts (Seats.seat_of a target n)
device_own s a i target unit n b =
    units_at s.hosts (λ u. u.target == target) a.units target n (record (without_dropped a (λ p. p.target == target)) {
      senses = kept_senses (λ q. q.target == target) a.senses;
      holds = kept_nexuses (λ q. q.target == target) a.holds;
    }) ∙ (λ j. record (kept j) {
      senses = λ k. (dropped_senses (λ q. q.target == target) a.senses (Seats.nexus_at target n k)
          ∙ (λ m. if eq_self target m then None else sense_of_nexus a.senses (Seats.nexus_at target n k))) j;
      hold = λ k. (dropped_holds (λ q. q.target == target) a.holds (Seats.nexus_at target n k)
          ∙ (λ m. if eq_self target m then false else Seats.in_hold a.holds (Seats.nexus_at target n k))) j;
      attentions =
          λ k. if hit_all (λ u. u.target == target) a.units target n (λ u e. (λ m. e m == target) ∙ eq_self target) j
          && Seats.is_initiator s.hosts k then Some reset_occurred
          else sense_of_nexus a.attentions (Seats.nexus_at target n k);
    })
  where
    kept : Seats.seat_of (without_dropped a (λ p. p.target == target)) target n
        ≡ Seats.seat_kept (λ p. true) (Seats.seat_of a target n)
    kept = kept_at a (λ p. p.target == target) target n ∙ kept_same s a target n (λ p. p.target == target) (λ p. true) b
        (λ q h. and_first (q.target == target) (q.unit == n) h)

pub device_other : (s : ScenarioValue) (a : Array) (i target unit t n : ℕ) → IsSound s a → (target == t) ≡ false
    → Seats.seat_of (abort_step s a i target unit aborts.Device) t n ≡ Seats.seat_of a t n
device_other s a i target unit t n b o =
    units_at s.hosts (λ u. u.target == target) a.units t n (record (without_dropped a (λ p. p.target == target)) {
      senses = kept_senses (λ q. q.target == target) a.senses;
      holds = kept_nexuses (λ q. q.target == target) a.holds;
    }) ∙ (λ j. record (kept j) {
      senses = λ k. (dropped_senses (λ q. q.target == target) a.senses (Seats.nexus_at t n k)
          ∙ (λ m. if other m then None else sense_of_nexus a.senses (Seats.nexus_at t n k))) j;
      hold = λ k. (dropped_holds (λ q. q.target == target) a.holds (Seats.nexus_at t n k)
          ∙ (λ m. if other m then false else Seats.in_hold a.holds (Seats.nexus_at t n k))) j;
      attentions = λ k. if hit_none target a.units t n o j && Seats.is_initiator s.hosts k then Some reset_occurred
          else sense_of_nexus a.attentions (Seats.nexus_at t n k);
    })
  where
    turned : (x : ℕ) → x ≡ t → (x == target) ≡ false
    turned x e = go (x == target) refl
      where
        go : (y : Bool) → (x == target) ≡ y → (x == target) ≡ false
        go false z = z
        go true z =
            let yes : (target == t) ≡ true = (λ i. (sym (eqb-true x target z) ∙ e) i == t) ∙ eq_self t in
            let no : true ≡ false = sym yes ∙ o in cc

    other : (t == target) ≡ false
    other = turned t refl

    kept : Seats.seat_of (without_dropped a (λ p. p.target == target)) t n ≡ Seats.seat_of a t n
    kept = kept_at a (λ p. p.target == target) t n ∙ kept_same s a t n (λ p. p.target == target) (λ p. false) b
        (λ q h. turned q.target (eqb-true q.target t (and_first (q.target == t) (q.unit == n) h)))
        ∙ kept_all (Seats.seat_of a t n)
