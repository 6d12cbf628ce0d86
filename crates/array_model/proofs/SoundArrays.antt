-- The array is sound after every history.
use Rattle.std.proofs.Common.{ℕ, zero, suc, ◌≡◌, ◌<◌, Bool, true, false, List, [], ◌∷◌, ◌++◌, ◌∙◌, refl, sym, subst}
use Rattle.std.proofs.Common.{map, Option, Some, None}
use Rattle.std.specs.Prelude.{if◌then◌else◌, not, ◌&&◌, ◌||◌, ◌==◌, is_some, is_none, nat_lt}
use Rattle.bus_base.specs.declared.AbortKind.{AbortKind}
use Rattle.bus_base.specs.declared.AbortKind.TheVariants as aborts
use Rattle.bus_base.specs.declared.Event.{Event}
use Rattle.bus_base.specs.declared.Event.TheVariants as events
use Rattle.bus_base.specs.declared.ProcId.{ProcId}
use Rattle.cdb_codec.specs.declared.status.TheConstants.{GOOD, CHECK_CONDITION}
use Rattle.cdb_codec.specs.Cdb.{command_of}
use Rattle.scenario.specs.declared.value.CmdDef.{CmdDef}
use Rattle.scenario.specs.declared.value.HostDef.{HostDef}
use Rattle.scenario.specs.declared.value.UnitDef.{UnitDef}
use Rattle.scenario.specs.Lookups.{units_of}
use Rattle.scenario.specs.Value.{ScenarioValue}
use Rattle.array_model.specs.Contents.{Contents}
use Rattle.array_model.specs.Processes.{Process, process_of, process_by, process_if, command_at, command_process}
use Rattle.array_model.specs.Processes.{same_id, sense_process}
use Rattle.array_model.specs.Execution.{Reply, Execution, execution, is_request_sense, queue_full, check_condition}
use Rattle.array_model.specs.Execution.{commands_cleared}
use Rattle.array_model.specs.Order.{choice, process_at, process_at_if, chosen_place, entries_of, without_process}
use Rattle.array_model.specs.Units.{RunningProcess, UnitState, Nexus, Array, same_nexus, sense_of_nexus, senses_without}
use Rattle.array_model.specs.Units.{nexuses_without, is_held, unit_state_at, with_unit, guest_at, without_guest}
use Rattle.array_model.specs.Units.{with_current, has_no_current, unit_after_choice, settled_array, starting_array}
use Rattle.array_model.specs.Units.{starting_units, nexus_of}
use Rattle.array_model.specs.Steps
use Rattle.array_model.specs.ArrayHistory.{array_step, array_after}
use Rattle.array_model.specs.Seats.{seat_of, settled_seat, unit_mapped, unit_with_reply, unit_kept}
use Rattle.array_model.specs.SoundArray.{IsOwn, AllOwn, IsOwnRunning, IsOwnUnit, AllOwnUnits, AllOwnGuests, AllOfEight}
use Rattle.array_model.specs.SoundArray.{AreApart, IsSound, HasSeats}
use Rattle.array_model.proofs.SeatLookups.{mapped_at, replies_map, without_map, kept_map, choice_map, is_place}
use Rattle.array_model.proofs.SeatLookups.{found_target, found_unit, place_is, not_both, with_unit_at}
use Rattle.array_model.proofs.SeatSteps.{choice_target, choice_unit, seat_settled, settled_twice}
use Rattle.array_model.proofs.SeatOwn.{own_found, guest_process}
use Rattle.std.proofs.lemmas.Bool.{eqb-true}
use Rattle.bus_base.proofs.Tests.{and_first, and_second}

-- What holds of the array before the choice.
record Nearly (s : ScenarioValue) (a : Array) : Type 0 where
  units : AllOwnUnits s a.units
  guests : AllOwnGuests s a.guests
  holds : AllOfEight a.holds
  apart : AreApart a.units

nearly : (s : ScenarioValue) (a : Array) → IsSound s a → Nearly s a
nearly s a b = record { units = b.units; guests = b.guests; holds = b.holds; apart = b.apart }

-- ---- numbers

pub id_is : (s : ScenarioValue) (id : ProcId) (p : Process) → process_of s id ≡ Some p → p.id ≡ id
id_is s id p h = go (command_at s.commands id.command) h
  where
    either : (x : Bool) (one two : Process) → one.id ≡ id → two.id ≡ id
        → (let q : Process = if x then one else two in q.id) ≡ id
    either true one two a b = a
    either false one two a b = b

    by : (c : CmdDef) → (process_by s id c).id ≡ id
    by c = either id.sense
        (sense_process s id c)
        (command_process s id c)
        refl refl

    go : (x : Option CmdDef) → process_if s id x ≡ Some p → p.id ≡ id
    go None k = cc
    go (Some c) k = let same : process_by s id c ≡ p = cc in (λ i. (sym same i).id) ∙ by c

pub is_own : (s : ScenarioValue) (id : ProcId) (p : Process) → process_of s id ≡ Some p → process_of s p.id ≡ Some p
is_own s id p h = (λ i. process_of s (id_is s id p h i)) ∙ h

-- ---- lists of processes

own_append : (s : ScenarioValue) (t n : ℕ) (waiting : List Process) (p : Process) → AllOwn s t n waiting → IsOwn s t n p
    → AllOwn s t n (waiting ++ p ∷ [])
own_append s t n [] p b c = (c, tt)
own_append s t n (q ∷ waiting) p b c = (b.0, own_append s t n waiting p b.1 c)

own_without : (s : ScenarioValue) (t n : ℕ) (waiting : List Process) (id : ProcId) → AllOwn s t n waiting
    → AllOwn s t n (without_process waiting id)
own_without s t n [] id b = tt
own_without s t n (q ∷ waiting) id b = go (same_id q.id id) (own_without s t n waiting id b.1)
  where
    go : (x : Bool) → AllOwn s t n (without_process waiting id)
        → AllOwn s t n (if x then without_process waiting id else q ∷ without_process waiting id)
    go true k = k
    go false k = (b.0, k)

own_kept : (s : ScenarioValue) (t n : ℕ) (drops : Process → Bool) (waiting : List Process) → AllOwn s t n waiting
    → AllOwn s t n (Steps.kept_processes drops waiting)
own_kept s t n drops [] b = tt
own_kept s t n drops (q ∷ waiting) b = go (drops q) (own_kept s t n drops waiting b.1)
  where
    go : (x : Bool) → AllOwn s t n (Steps.kept_processes drops waiting)
        → AllOwn s t n (if x then Steps.kept_processes drops waiting else q ∷ Steps.kept_processes drops waiting)
    go true k = k
    go false k = (b.0, k)

own_at : (s : ScenarioValue) (t n : ℕ) (waiting : List Process) (place : ℕ) (p : Process) → AllOwn s t n waiting
    → process_at waiting place ≡ Some p → IsOwn s t n p
own_at s t n [] place p b h = cc
own_at s t n (q ∷ waiting) zero p b h = let same : q ≡ p = cc in subst (λ (r : Process). IsOwn s t n r) same b.0
own_at s t n (q ∷ waiting) (suc place) p b h = own_at s t n waiting place p b.1 h

own_choice : (s : ScenarioValue) (u : UnitState) (p : Process) → IsOwnUnit s u → choice u.pick u.waiting ≡ Some p
    → IsOwn s u.target u.unit p
own_choice s u p b h = go (chosen_place u.pick (entries_of u.waiting)) h
  where
    go : (x : Option ℕ) → process_at_if u.waiting x ≡ Some p → IsOwn s u.target u.unit p
    go None k = cc
    go (Some place) k = own_at s u.target u.unit u.waiting place p b.waiting k

-- ---- lists of units

own_mapped : (s : ScenarioValue) (f : UnitState → UnitState) → ((u : UnitState) → IsOwnUnit s u → IsOwnUnit s (f u))
    → (units : List UnitState) → AllOwnUnits s units → AllOwnUnits s (map f units)
own_mapped s f h [] b = tt
own_mapped s f h (u ∷ units) b = (h u b.0, own_mapped s f h units b.1)

apart_mapped : (f : UnitState → UnitState) → ((u : UnitState) → (f u).target ≡ u.target)
    → ((u : UnitState) → (f u).unit ≡ u.unit) → (units : List UnitState) → AreApart units → AreApart (map f units)
apart_mapped f x y [] b = tt
apart_mapped f x y (u ∷ units) b = (
  (λ i. unit_state_at (map f units) (x u i) (y u i)) ∙ mapped_at f x y units u.target u.unit
      ∙ (λ i. unit_mapped f (b.0 i)),
  apart_mapped f x y units b.1,
)

own_with : (s : ScenarioValue) (units : List UnitState) (new : UnitState) → AllOwnUnits s units → IsOwnUnit s new
    → AllOwnUnits s (with_unit units new)
own_with s [] new b c = tt
own_with s (u ∷ units) new b c = go (u.target == new.target && u.unit == new.unit) (own_with s units new b.1 c)
  where
    go : (x : Bool) → AllOwnUnits s (with_unit units new)
        → AllOwnUnits s (if x then new ∷ units else u ∷ with_unit units new)
    go true k = (c, b.1)
    go false k = (b.0, k)

apart_with : (units : List UnitState) (new : UnitState) → AreApart units → AreApart (with_unit units new)
apart_with [] new b = tt
apart_with (u ∷ units) new b = go (u.target == new.target && u.unit == new.unit) refl (apart_with units new b.1)
  where
    no_place : (u.target == new.target && u.unit == new.unit) ≡ false → is_place new u.target u.unit ≡ false
    no_place z = not_both u new u.target u.unit z (place_is u u.target u.unit refl refl)

    go : (x : Bool) → (u.target == new.target && u.unit == new.unit) ≡ x → AreApart (with_unit units new)
        → AreApart (if x then new ∷ units else u ∷ with_unit units new)
    go true z k =
        let one : u.target ≡ new.target = eqb-true u.target new.target
        (and_first (u.target == new.target) (u.unit == new.unit) z) in
        let two : u.unit ≡ new.unit = eqb-true u.unit new.unit
        (and_second (u.target == new.target) (u.unit == new.unit) z) in
        ((λ i. unit_state_at units (sym one i) (sym two i)) ∙ b.0, b.1)
    go false z k = (
      with_unit_at units new u.target u.unit
          ∙ (λ i. if no_place z i then (if is_some (unit_state_at units u.target u.unit) then Some new else None)
          else unit_state_at units u.target u.unit) ∙ b.0,
      k,
    )

-- ---- one unit

own_replied : (s : ScenarioValue) (id : ProcId) (reply : Reply) (u : UnitState) → IsOwnUnit s u
    → IsOwnUnit s (unit_with_reply id reply u)
own_replied s id reply u b = record { waiting = b.waiting; current = go u.current b.current }
  where
    inner : (r : RunningProcess) → IsOwn s u.target u.unit r.process
        → (x : Bool) → IsOwnRunning s u.target u.unit (if x then Some (record r { reply = Some reply }) else Some r)
    inner r k true = k
    inner r k false = k

    go : (x : Option RunningProcess) → IsOwnRunning s u.target u.unit x
        → IsOwnRunning s u.target u.unit (Steps.current_with_reply x id reply)
    go None k = tt
    go (Some r) k = inner r k (same_id r.process.id id)

own_unit_without : (s : ScenarioValue) (id : ProcId) (u : UnitState) → IsOwnUnit s u
    → IsOwnUnit s (Steps.unit_without u id)
own_unit_without s id u b = record {
  waiting = own_without s u.target u.unit u.waiting id b.waiting;
  current = go (is_some (Steps.running_if u.current id));
}
  where
    go : (x : Bool) → IsOwnRunning s u.target u.unit (if x then None else u.current)
    go true = tt
    go false = b.current

own_unit_kept : (s : ScenarioValue) (drops : Process → Bool) (u : UnitState) → IsOwnUnit s u
    → IsOwnUnit s (unit_kept drops u)
own_unit_kept s drops u b =
    record { waiting = own_kept s u.target u.unit drops u.waiting b.waiting; current = go u.current b.current }
  where
    inner : (r : RunningProcess) → IsOwn s u.target u.unit r.process
        → (x : Bool) → IsOwnRunning s u.target u.unit (if x then None else Some r)
    inner r k true = tt
    inner r k false = k

    go : (x : Option RunningProcess) → IsOwnRunning s u.target u.unit x
        → IsOwnRunning s u.target u.unit (Steps.kept_running drops x)
    go None k = tt
    go (Some r) k = inner r k (drops r.process)

own_unit_choice : (s : ScenarioValue) (holds : List Nexus) (u : UnitState) → IsOwnUnit s u
    → IsOwnUnit s (unit_after_choice holds u)
own_unit_choice s holds u b =
    go (has_no_current u.current && not (is_held holds u.target u.unit)) (choice u.pick u.waiting) refl
  where
    go : (x : Bool) (p : Option Process) → choice u.pick u.waiting ≡ p → IsOwnUnit s (if x then with_current u p else u)
    go true None z = b
    go true (Some p) z =
        record { waiting = own_without s u.target u.unit u.waiting p.id b.waiting; current = own_choice s u p b z }
    go false p z = b

-- ---- guests

guests_append : (s : ScenarioValue) (guests : List RunningProcess) (g : RunningProcess) → AllOwnGuests s guests
    → process_of s g.process.id ≡ Some g.process → AllOwnGuests s (guests ++ g ∷ [])
guests_append s [] g b c = (c, tt)
guests_append s (f ∷ guests) g b c = (b.0, guests_append s guests g b.1 c)

guests_replied : (s : ScenarioValue) (guests : List RunningProcess) (id : ProcId) (reply : Reply)
    → AllOwnGuests s guests → AllOwnGuests s (Steps.guests_with_reply guests id reply)
guests_replied s [] id reply b = tt
guests_replied s (g ∷ guests) id reply b = go (same_id g.process.id id) (guests_replied s guests id reply b.1)
  where
    go : (x : Bool) → AllOwnGuests s (Steps.guests_with_reply guests id reply) → AllOwnGuests s
        (if x then record g { reply = Some reply } ∷ guests else g ∷ Steps.guests_with_reply guests id reply)
    go true k = (b.0, b.1)
    go false k = (b.0, k)

guests_without : (s : ScenarioValue) (guests : List RunningProcess) (id : ProcId) → AllOwnGuests s guests
    → AllOwnGuests s (without_guest guests id)
guests_without s [] id b = tt
guests_without s (g ∷ guests) id b = go (same_id g.process.id id) (guests_without s guests id b.1)
  where
    go : (x : Bool) → AllOwnGuests s (without_guest guests id)
        → AllOwnGuests s (if x then without_guest guests id else g ∷ without_guest guests id)
    go true k = k
    go false k = (b.0, k)

guests_kept : (s : ScenarioValue) (drops : Process → Bool) (guests : List RunningProcess) → AllOwnGuests s guests
    → AllOwnGuests s (Steps.kept_guests drops guests)
guests_kept s drops [] b = tt
guests_kept s drops (g ∷ guests) b = go (drops g.process) (guests_kept s drops guests b.1)
  where
    go : (x : Bool) → AllOwnGuests s (Steps.kept_guests drops guests)
        → AllOwnGuests s (if x then Steps.kept_guests drops guests else g ∷ Steps.kept_guests drops guests)
    go true k = k
    go false k = (b.0, k)

-- ---- holds

eight_without : (holds : List Nexus) (q : Nexus) → AllOfEight holds → AllOfEight (nexuses_without holds q)
eight_without [] q b = tt
eight_without (e ∷ holds) q b = go (same_nexus e q) (eight_without holds q b.1)
  where
    go : (x : Bool) → AllOfEight (nexuses_without holds q)
        → AllOfEight (if x then nexuses_without holds q else e ∷ nexuses_without holds q)
    go true k = k
    go false k = (b.0, k)

eight_kept : (drops : Nexus → Bool) (holds : List Nexus) → AllOfEight holds
    → AllOfEight (Steps.kept_nexuses drops holds)
eight_kept drops [] b = tt
eight_kept drops (e ∷ holds) b = go (drops e) (eight_kept drops holds b.1)
  where
    go : (x : Bool) → AllOfEight (Steps.kept_nexuses drops holds)
        → AllOfEight (if x then Steps.kept_nexuses drops holds else e ∷ Steps.kept_nexuses drops holds)
    go true k = k
    go false k = (b.0, k)

-- ---- the choice

settle_sound : (s : ScenarioValue) (a : Array) → Nearly s a → IsSound s (settled_array a)
settle_sound s a b = record {
  units = subst (λ (us : List UnitState). AllOwnUnits s us) (sym (choice_map a.holds a.units))
      (own_mapped s (unit_after_choice a.holds) (own_unit_choice s a.holds) a.units b.units);
  guests = b.guests;
  holds = b.holds;
  apart = subst AreApart (sym (choice_map a.holds a.units))
      (apart_mapped (unit_after_choice a.holds) (choice_target a.holds) (choice_unit a.holds) a.units b.apart);
  settled = λ t n. (λ i. settled_seat (seat_settled a t n b.holds i)) ∙ settled_twice (seat_of a t n)
      ∙ sym (seat_settled a t n b.holds);
}

-- ---- a command arrives

with_guest_sound : (s : ScenarioValue) (a : Array) (p : Process) (reply : Option Reply) → Nearly s a
    → process_of s p.id ≡ Some p → Nearly s (Steps.with_guest a p reply)
with_guest_sound s a p reply b e = record {
  units = b.units;
  guests = guests_append s a.guests (record { process = p; reply = reply }) b.guests e;
  holds = b.holds;
  apart = b.apart;
}

with_unit_sound : (s : ScenarioValue) (a : Array) (new : UnitState) → Nearly s a → IsOwnUnit s new
    → Nearly s (record a { units = with_unit a.units new })
with_unit_sound s a new b c = record {
  units = own_with s a.units new b.units c;
  guests = b.guests;
  holds = b.holds;
  apart = apart_with a.units new b.apart;
}

-- The result of a step.
abbrev IsNearly : ScenarioValue → Option Array → Type 0
IsNearly s None = Unit {0}
IsNearly s (Some a) = Nearly s a

nearly_if : (s : ScenarioValue) (x : Bool) (a : Array) → Nearly s a → IsNearly s (if x then Some a else None)
nearly_if s true a b = b
nearly_if s false a b = tt

accept_sound : (s : ScenarioValue) (a : Array) (id : ProcId) → Nearly s a
    → IsNearly s (Steps.accept_step a (process_of s id))
accept_sound s a id b = go (process_of s id) refl
  where
    waits : (p : Process) → process_of s p.id ≡ Some p
        → (u : UnitState) → unit_state_at a.units p.target p.unit ≡ Some u
        → Nearly s (record a { units = with_unit a.units (record u { waiting = u.waiting ++ p ∷ [] }) })
    waits p e u z =
        let own : IsOwnUnit s u = own_found s a.units p.target p.unit u b.units z in
        with_unit_sound s a (record u { waiting = u.waiting ++ p ∷ [] }) b
        (record {
          waiting = own_append s u.target u.unit u.waiting p own.waiting (record {
            is = e;
            target_is = sym (found_target a.units p.target p.unit u z);
            unit_is = sym (found_unit a.units p.target p.unit u z);
          });
          current = own.current;
        })

    either : (p : Process) → process_of s p.id ≡ Some p
        → (u : UnitState) → unit_state_at a.units p.target p.unit ≡ Some u
        → (x : Bool) → IsNearly s (if x then Some (Steps.with_guest a p None) else Steps.queue_step a p u)
    either p e u z true = with_guest_sound s a p None b e
    either p e u z false = nearly_if s (nat_lt (Steps.process_count u) u.depth)
        (record a { units = with_unit a.units (record u { waiting = u.waiting ++ p ∷ [] }) }) (waits p e u z)

    at : (p : Process) → process_of s p.id ≡ Some p → (x : Option UnitState) → unit_state_at a.units p.target p.unit ≡ x
        → IsNearly s (Steps.accept_step_at a p x)
    at p e None z = with_guest_sound s a p None b e
    at p e (Some u) z = either p e u z (is_request_sense (command_of p.cdb))

    go : (x : Option Process) → process_of s id ≡ x → IsNearly s (Steps.accept_step a x)
    go None z = tt
    go (Some p) z = at p (is_own s id p z) (unit_state_at a.units p.target p.unit) refl

refuse_sound : (s : ScenarioValue) (a : Array) (id : ProcId) → Nearly s a
    → IsNearly s (Steps.refuse_step a (process_of s id))
refuse_sound s a id b = go (process_of s id) refl
  where
    at : (p : Process) → process_of s p.id ≡ Some p → (x : Option UnitState) → IsNearly s (Steps.refuse_step_at a p x)
    at p e None = tt
    at p e (Some u) = nearly_if s (not (is_request_sense (command_of p.cdb)) && Steps.process_count u == u.depth)
        (Steps.with_listed_reply (Steps.with_guest a p (Some queue_full)) p.id queue_full)
        (let g : Nearly s (Steps.with_guest a p (Some queue_full)) = with_guest_sound s a p (Some queue_full) b e in
        record { units = g.units; guests = g.guests; holds = g.holds; apart = g.apart })

    go : (x : Option Process) → process_of s id ≡ x → IsNearly s (Steps.refuse_step a x)
    go None z = tt
    go (Some p) z = at p (is_own s id p z) (unit_state_at a.units p.target p.unit)

-- ---- a command runs, fails, ends

reply_sound : (s : ScenarioValue) (a : Array) (id : ProcId) (reply : Reply) → Nearly s a
    → Nearly s (Steps.with_reply a id reply)
reply_sound s a id reply b = record {
  units = subst (λ (us : List UnitState). AllOwnUnits s us) (sym (replies_map a.units id reply))
      (own_mapped s (unit_with_reply id reply) (own_replied s id reply) a.units b.units);
  guests = guests_replied s a.guests id reply b.guests;
  holds = b.holds;
  apart = subst AreApart (sym (replies_map a.units id reply))
      (apart_mapped (unit_with_reply id reply) (λ u. refl) (λ u. refl) a.units b.apart);
}

contents_sound : (s : ScenarioValue) (a : Array) (p : Process) (contents : Contents) (r : Bool) (t n : ℕ) → Nearly s a
    → Nearly s (Steps.with_contents (Steps.without_attention a r (nexus_of p)) (unit_state_at a.units t n) contents)
contents_sound s a p contents r t n b = go r (unit_state_at a.units t n) refl
  where
    put : (c : Array) → c.units ≡ a.units → Nearly s c → (u : UnitState) → unit_state_at a.units t n ≡ Some u
        → Nearly s (record c { units = with_unit c.units (record u { contents = contents }) })
    put c same k u z =
        let own : IsOwnUnit s u = own_found s a.units t n u b.units z in
        with_unit_sound s c (record u { contents = contents }) k
        (record { waiting = own.waiting; current = own.current })

    told : Nearly s (record a { attentions = senses_without a.attentions (nexus_of p) })
    told = record { units = b.units; guests = b.guests; holds = b.holds; apart = b.apart }

    go : (r : Bool) (x : Option UnitState) → unit_state_at a.units t n ≡ x
        → Nearly s (Steps.with_contents (Steps.without_attention a r (nexus_of p)) x contents)
    go true None z = told
    go false None z = b
    go true (Some u) z = put (record a { attentions = senses_without a.attentions (nexus_of p) }) refl told u z
    go false (Some u) z = put a refl b u z

run_sound : (s : ScenarioValue) (a : Array) (guest : Bool) (r : Option RunningProcess) → Nearly s a
    → IsNearly s (Steps.run_step a guest r)
run_sound s a guest None b = tt
run_sound s a guest (Some r) b =
    let u : Option UnitState = unit_state_at a.units r.process.target r.process.unit in
    let done : Execution = execution (Steps.context_at a (nexus_of r.process) u) r.process.cdb r.process.sent in
    nearly_if s (is_none r.reply && (guest || not (is_held a.holds r.process.target r.process.unit)))
    (Steps.after_execution_at a r.process u) (reply_sound s
    (Steps.with_contents (Steps.without_attention a done.reported (nexus_of r.process)) u done.contents) r.process.id
    done.reply (contents_sound s a r.process done.contents done.reported r.process.target r.process.unit b))

fail_sound : (s : ScenarioValue) (a : Array) (id : ProcId) (reply : Reply) (r : Option RunningProcess) → Nearly s a
    → IsNearly s (Steps.fail_step s a id reply r)
fail_sound s a id reply (Some r) b =
    nearly_if s (is_none r.reply) (Steps.with_reply a id reply) (reply_sound s a id reply b)
fail_sound s a id reply None b = go (process_of s id) refl
  where
    came : (x : Bool) (p : Process) → process_of s p.id ≡ Some p
        → IsNearly s (if x then None else Some (Steps.with_listed_reply (Steps.with_guest a p (Some reply)) id reply))
    came true p e = tt
    came false p e =
        let g : Nearly s (Steps.with_guest a p (Some reply)) = with_guest_sound s a p (Some reply) b e in
        record { units = g.units; guests = g.guests; holds = g.holds; apart = g.apart }

    go : (x : Option Process) → process_of s id ≡ x → IsNearly s (Steps.fail_step_of_new a id reply x)
    go None z = tt
    go (Some p) z = came (Steps.is_waiting a.units id || Steps.has_ended a id) p (is_own s id p z)

without_sound : (s : ScenarioValue) (a : Array) (id : ProcId) → Nearly s a → Nearly s (Steps.array_without a id)
without_sound s a id b = record {
  units = subst (λ (us : List UnitState). AllOwnUnits s us) (sym (without_map a.units id))
      (own_mapped s (λ u. Steps.unit_without u id) (own_unit_without s id) a.units b.units);
  guests = guests_without s a.guests id b.guests;
  holds = b.holds;
  apart = subst AreApart (sym (without_map a.units id))
      (apart_mapped (λ u. Steps.unit_without u id) (λ u. refl) (λ u. refl) a.units b.apart);
}

status_sound : (s : ScenarioValue) (a : Array) (p : Process) (reply : Reply) → Nearly s a → p.initiator < 8
    → Nearly s (Steps.after_status a p reply)
status_sound s a p reply b l =
    go (reply.status == CHECK_CONDITION) (reply.status == GOOD && is_request_sense (command_of p.cdb))
  where
    go : (x y : Bool) → Nearly s (if x then record a {
      senses = (nexus_of p, reply.sense) ∷ senses_without a.senses (nexus_of p);
      holds = nexus_of p ∷ nexuses_without a.holds (nexus_of p);
    } else if y then record a {
      senses = senses_without a.senses (nexus_of p);
      holds = nexuses_without a.holds (nexus_of p);
    } else a)
    go true y = record {
      units = b.units;
      guests = b.guests;
      holds = (l, eight_without a.holds (nexus_of p) b.holds);
      apart = b.apart;
    }
    go false true = record {
      units = b.units;
      guests = b.guests;
      holds = eight_without a.holds (nexus_of p) b.holds;
      apart = b.apart;
    }
    go false false = b

pub current_process : (s : ScenarioValue) (units : List UnitState) (id : ProcId) (r : RunningProcess)
    → AllOwnUnits s units → Steps.running_in units id ≡ Some r → process_of s r.process.id ≡ Some r.process
current_process s [] id r b h = cc
current_process s (u ∷ units) id r b h = go (λ k. current_process s units id r b.1 k) u.current b.0.current h
  where
    inner : (Steps.running_in units id ≡ Some r → process_of s r.process.id ≡ Some r.process)
        → (q : RunningProcess) → IsOwn s u.target u.unit q.process → (x : Bool)
        → (if is_some (if x then Some q else None) then (if x then Some q else None) else Steps.running_in units id)
        ≡ Some r → process_of s r.process.id ≡ Some r.process
    inner more q k true l =
        let same : q ≡ r = cc in
        subst (λ (f : RunningProcess). process_of s f.process.id ≡ Some f.process) same k.is
    inner more q k false l = more l

    go : (Steps.running_in units id ≡ Some r → process_of s r.process.id ≡ Some r.process)
        → (x : Option RunningProcess) → IsOwnRunning s u.target u.unit x
        → (if is_some (Steps.running_if x id) then Steps.running_if x id else Steps.running_in units id) ≡ Some r
        → process_of s r.process.id ≡ Some r.process
    go more None k l = more l
    go more (Some q) k l = inner more q k (same_id q.process.id id) l

running_of_scenario : (s : ScenarioValue) (a : Array) (id : ProcId) (r : RunningProcess) → Nearly s a
    → Steps.running_process a id ≡ Some r → process_of s r.process.id ≡ Some r.process
running_of_scenario s a id r b h = go (guest_at a.guests id) refl h
  where
    go : (x : Option RunningProcess) → guest_at a.guests id ≡ x
        → (if is_some x then x else Steps.running_in a.units id) ≡ Some r → process_of s r.process.id ≡ Some r.process
    go None z k = current_process s a.units id r b.units k
    go (Some g) z k = guest_process s a.guests id r b.guests (z ∙ k)

end_sound : (s : ScenarioValue) (a : Array) (id : ProcId) (status : ℕ) → HasSeats s → Nearly s a
    → IsNearly s (Steps.end_step a status (Steps.running_process a id))
end_sound s a id status f b = go (Steps.running_process a id) refl
  where
    with_reply : (r : RunningProcess) → r.process.initiator < 8
        → (x : Option Reply) → IsNearly s (Steps.end_step_with a r.process status x)
    with_reply r l None = tt
    with_reply r l (Some reply) = nearly_if s (reply.status == status)
        (Steps.array_without (Steps.after_status a r.process reply) r.process.id)
        (without_sound s (Steps.after_status a r.process reply) r.process.id (status_sound s a r.process reply b l))

    go : (x : Option RunningProcess) → Steps.running_process a id ≡ x → IsNearly s (Steps.end_step a status x)
    go None z = tt
    go (Some r) z = with_reply r (f.initiators r.process.id r.process (running_of_scenario s a id r b z)) r.reply

loss_sound : (s : ScenarioValue) (a : Array) (id : ProcId) → Nearly s a → IsNearly s (Steps.loss_step a id)
loss_sound s a id b = go (Steps.has_ended a id)
  where
    go : (x : Bool) → IsNearly s (if x then None else Some (Steps.array_without a id))
    go true = tt
    go false = without_sound s a id b

-- ---- aborts and resets

dropped_sound : (s : ScenarioValue) (a : Array) (drops : Process → Bool) → Nearly s a
    → Nearly s (Steps.without_dropped a drops)
dropped_sound s a drops b = record {
  units = subst (λ (us : List UnitState). AllOwnUnits s us) (sym (kept_map drops a.units))
      (own_mapped s (unit_kept drops) (own_unit_kept s drops) a.units b.units);
  guests = guests_kept s drops a.guests b.guests;
  holds = b.holds;
  apart = subst AreApart (sym (kept_map drops a.units))
      (apart_mapped (unit_kept drops) (λ u. refl) (λ u. refl) a.units b.apart);
}

hosts_sound : (s : ScenarioValue) (hosts : List HostDef) (t n : ℕ) (a : Array) → Nearly s a
    → Nearly s (Steps.reset_attentions hosts t n a)
hosts_sound s [] t n a b = b
hosts_sound s (h ∷ hosts) t n a b = hosts_sound s hosts t n
    (Steps.reset_attention a (record { initiator = h.dev; target = t; unit = n }))
    (record { units = b.units; guests = b.guests; holds = b.holds; apart = b.apart })

units_sound :
    (s : ScenarioValue) (hosts : List HostDef) (units : List UnitState) (is_one : UnitState → Bool) (a : Array)
    → Nearly s a → Nearly s (Steps.unit_reset_attentions hosts units is_one a)
units_sound s hosts [] is_one a b = b
units_sound s hosts (u ∷ units) is_one a b = units_sound s hosts units is_one
    (if is_one u then Steps.reset_attentions hosts u.target u.unit a else a) (go (is_one u))
  where
    go : (x : Bool) → Nearly s (if x then Steps.reset_attentions hosts u.target u.unit a else a)
    go true = hosts_sound s hosts u.target u.unit a b
    go false = b

cleared_sound : (s : ScenarioValue) (by : ℕ) (lost : List Process) (a : Array) → Nearly s a
    → Nearly s (Steps.cleared_attentions by lost a)
cleared_sound s by [] a b = b
cleared_sound s by (q ∷ lost) a b = cleared_sound s by lost
    (if q.initiator == by then a else Steps.cleared_attention a (nexus_of q))
    (go (q.initiator == by) (Steps.is_reset_pending (sense_of_nexus a.attentions (nexus_of q))))
  where
    told : (y : Bool) → Nearly s (if y then a else record a {
      attentions = (nexus_of q, commands_cleared) ∷ senses_without a.attentions (nexus_of q);
    })
    told true = b
    told false = record { units = b.units; guests = b.guests; holds = b.holds; apart = b.apart }

    go : (x y : Bool) → Nearly s (if x then a else Steps.cleared_attention a (nexus_of q))
    go true y = b
    go false y = told (Steps.is_reset_pending (sense_of_nexus a.attentions (nexus_of q)))

abort_sound : (s : ScenarioValue) (a : Array) (i t n : ℕ) (what : AbortKind) → Nearly s a
    → Nearly s (Steps.abort_step s a i t n what)
abort_sound s a i t n aborts.All b =
    let d : Nearly s (Steps.without_dropped a (λ p. p.initiator == i && Steps.is_of_unit p t n)) = dropped_sound s a
    (λ p. p.initiator == i && Steps.is_of_unit p t n) b in
    record {
      units = d.units;
      guests = d.guests;
      holds = eight_without a.holds (record { initiator = i; target = t; unit = n }) b.holds;
      apart = d.apart;
    }
abort_sound s a i t n (aborts.Tag tag) b =
    dropped_sound s a (λ p. p.initiator == i && Steps.is_of_unit p t n && Steps.has_tag p.tag tag) b
abort_sound s a i t n aborts.WholeQueue b = cleared_sound s i (Steps.unit_processes (unit_state_at a.units t n))
    (Steps.without_dropped a (λ p. Steps.is_of_unit p t n)) (dropped_sound s a (λ p. Steps.is_of_unit p t n) b)
abort_sound s a i t n aborts.Device b =
    let d : Nearly s (Steps.without_dropped a (λ p. p.target == t)) = dropped_sound s a (λ p. p.target == t) b in
    units_sound s s.hosts a.units (λ u. u.target == t) (record (Steps.without_dropped a (λ p. p.target == t)) {
      senses = Steps.kept_senses (λ q. q.target == t) a.senses;
      holds = Steps.kept_nexuses (λ q. q.target == t) a.holds;
    }) (record {
      units = d.units;
      guests = d.guests;
      holds = eight_kept (λ q. q.target == t) a.holds b.holds;
      apart = d.apart;
    })

reset_sound : (s : ScenarioValue) (a : Array) → Nearly s a → Nearly s (Steps.reset_step s a)
reset_sound s a b =
    let d : Nearly s (Steps.without_dropped a (λ p. true)) = dropped_sound s a (λ p. true) b in
    units_sound s s.hosts a.units (λ u. true) (record (Steps.without_dropped a (λ p. true)) { senses = []; holds = [] })
    (record { units = d.units; guests = d.guests; holds = tt; apart = d.apart })

-- ---- every event, and every history

event_sound : (s : ScenarioValue) (a : Array) (event : Event) → HasSeats s → Nearly s a
    → IsNearly s (Steps.event_step s a event)
event_sound s a (events.Accept id) f b = accept_sound s a id b
event_sound s a (events.Refuse id) f b = refuse_sound s a id b
event_sound s a (events.Run id) f b = run_sound s a (is_some (guest_at a.guests id)) (Steps.running_process a id) b
event_sound s a (events.Fail id code) f b =
    fail_sound s a id (check_condition (Rattle.array_model.specs.Execution.sense_of
    Rattle.cdb_codec.specs.declared.sense.TheConstants.ABORTED_COMMAND code 0x00)) (Steps.running_process a id) b
event_sound s a (events.End id status) f b = end_sound s a id status f b
event_sound s a (events.Lost id) f b = loss_sound s a id b
event_sound s a (events.Aborted i t n what) f b = abort_sound s a i t n what b
event_sound s a (events.Reset dev) f b = reset_sound s a b

pub eight_after : (s : ScenarioValue) (a b : Array) (event : Event) → HasSeats s → IsSound s a
    → Steps.event_step s a event ≡ Some b → AllOfEight b.holds
eight_after s a b event f c h = go (Steps.event_step s a event) (event_sound s a event f (nearly s a c)) h
  where
    go : (x : Option Array) → IsNearly s x → x ≡ Some b → AllOfEight b.holds
    go None k l = cc
    go (Some d) k l = let same : d ≡ b = cc in subst (λ (e : Array). AllOfEight e.holds) same k.holds

pub step_sound : (s : ScenarioValue) (a b : Array) (event : Event) → HasSeats s → IsSound s a
    → Steps.step s event a ≡ Some b → IsSound s b
step_sound s a b event f c h = go (Steps.event_step s a event) (event_sound s a event f (nearly s a c)) h
  where
    go : (x : Option Array) → IsNearly s x → Steps.settled_array_if x ≡ Some b → IsSound s b
    go None k l = cc
    go (Some d) k l =
        let same : settled_array d ≡ b = cc in
        subst (λ (e : Array). IsSound s e) same (settle_sound s d k)

pub start_units : (s : ScenarioValue) (units : List UnitDef) → AllOwnUnits s (starting_units s units)
start_units s [] = tt
start_units s (u ∷ units) = (record { waiting = tt; current = tt }, start_units s units)

pub start_sound : (s : ScenarioValue) → HasSeats s → IsSound s (settled_array (starting_array s))
start_sound s f = settle_sound s (starting_array s)
    (record { units = start_units s (units_of s); guests = tt; holds = tt; apart = f.apart })

pub history_sound : (s : ScenarioValue) (history : List Event) (a : Array) → HasSeats s → array_after s history ≡ Some a
    → IsSound s a
history_sound s [] a f h =
    let same : settled_array (starting_array s) ≡ a = cc in
    subst (λ (e : Array). IsSound s e) same (start_sound s f)
history_sound s (event ∷ history) a f h = go (λ b k. history_sound s history b f k) (array_after s history) refl h
  where
    go : ((b : Array) → array_after s history ≡ Some b → IsSound s b) → (x : Option Array) → array_after s history ≡ x
        → array_step s event x ≡ Some a → IsSound s a
    go more None z k = cc
    go more (Some b) z k = step_sound s b a event f (more b z) k
