-- A command arrives at the plain disk array, or is refused at a full queue, or fails before it has arrived: where its
-- process stands then (7.8).
use Rattle.row_laws.proofs
use proofs.Names.{inl, inr, ℕ, ◌≡◌, ◌≤◌, Bool, true, false, not, ◌&&◌, ◌||◌, ◌==◌, ◌∙◌, List, [], ◌∷◌, ◌++◌, Option}
use proofs.Names.{Some, None, refl, sym, subst, arith, eqb-true, nat_tests, same_Some, list_any, if◌then◌else◌, is_some}
use proofs.Names.{nat_lt, and_first, and_second, Event, ProcId, Pick, command_of, ScenarioValue, reply_in, Reply}
use proofs.Names.{is_request_sense, queue_full, aborted_reply, choice, process_at_if, picked_place, runnable_by}
use proofs.Names.{entry_of, is_head, is_ordered, has_none_before, has_ordered, is_held_back, Process, process_of}
use proofs.Names.{same_id, process_count, running_if, running_in, running_process, is_waiting, has_ended}
use proofs.Names.{RunningProcess, UnitState, Nexus, Array, is_held, unit_state_at, with_unit, guest_at, has_no_current}
use proofs.Names.{with_current, unit_after_choice, units_after_choice, settled_array, without_reply, self_id, Waits}
use proofs.Names.{Runs, OnUnits, OnGuests, Each, IsAway, IsUnanswered, IsAtRest, IsUntouched, IsOutside, MayRun}
use proofs.{Names.{IsAnswered, AreWithin}, Common.Impossible.{none_some, some_none}, Events.Depths.{unit_within}}
use proofs.Events.{Others.{away_units}, Processes.{append_waits, with_units, unit_has, chosen, each_settled}}
use Rattle.due_model.specs.array_model.specs.Steps

-- ---- who is away is not found

pub no_guest : (guests : List RunningProcess) (id : ProcId) → OnGuests (IsAway id) guests → guest_at guests id ≡ None
no_guest [] id h = refl
no_guest (g ∷ guests) id h = (λ i. if h.0 i then Some g else guest_at guests id) ∙ no_guest guests id h.1

pub not_current : (o : Option RunningProcess) (id : ProcId) → Runs (IsAway id) o → running_if o id ≡ None
not_current None id h = refl
not_current (Some r) id h = λ i. if h i then Some r else None

pub no_current : (units : List UnitState) (id : ProcId) → OnUnits (IsAway id) units → running_in units id ≡ None
no_current [] id h = refl
no_current (u ∷ units) id h =
    (λ i. if is_some (not_current u.current id h.0.1 i) then not_current u.current id h.0.1 i else running_in units id)
    ∙ no_current units id h.1

none_waits : (waiting : List Process) (id : ProcId) → Waits (IsAway id) waiting
    → list_any (λ (c : Process). same_id c.id id) waiting ≡ false
none_waits [] id h = refl
none_waits (c ∷ waiting) id h =
    (λ i. h.0 i || list_any (λ (q : Process). same_id q.id id) waiting) ∙ none_waits waiting id h.1

pub not_waiting : (units : List UnitState) (id : ProcId) → OnUnits (IsAway id) units → is_waiting units id ≡ false
not_waiting [] id h = refl
not_waiting (u ∷ units) id h = (λ i. none_waits u.waiting id h.0.0 i || is_waiting units id) ∙ not_waiting units id h.1

pub not_running : (a : Array) (id : ProcId) → Each (IsAway id) (IsAway id) a → running_process a id ≡ None
not_running a id h =
    (λ i. if is_some (no_guest a.guests id h.guests i) then no_guest a.guests id h.guests i else running_in a.units id)
    ∙ no_current a.units id h.units

-- ---- a guest more

guest_new : (guests : List RunningProcess) (r : RunningProcess) → OnGuests (IsAway r.process.id) guests
    → guest_at (guests ++ r ∷ []) r.process.id ≡ Some r
guest_new [] r h = λ i. if self_id r.process.id i then Some r else None
guest_new (g ∷ guests) r h =
    (λ i. if h.0 i then Some g else guest_at (guests ++ r ∷ []) r.process.id) ∙ guest_new guests r h.1

guest_runs : (a : Array) (r : RunningProcess) → OnGuests (IsAway r.process.id) a.guests
    → running_process (settled_array (Steps.with_guest a r.process r.reply)) r.process.id ≡ Some r
guest_runs a r h = λ i. if is_some (guest_new a.guests r h i) then guest_new a.guests r h i
    else running_in (settled_array (Steps.with_guest a r.process r.reply)).units r.process.id

chosen_at : (holds : List Nexus) (u : UnitState) (t m : ℕ)
    → ((unit_after_choice holds u).target == t && (unit_after_choice holds u).unit == m)
    ≡ (u.target == t && u.unit == m)
chosen_at holds u t m = go (has_no_current u.current && not (is_held holds u.target u.unit)) (choice u.pick u.waiting)
  where
    go : (x : Bool) (c : Option Process)
        → ((if x then with_current u c else u).target == t && (if x then with_current u c else u).unit == m)
        ≡ (u.target == t && u.unit == m)
    go true None = refl
    go true (Some c) = refl
    go false c = refl

no_unit_chosen : (holds : List Nexus) (units : List UnitState) (t m : ℕ) → unit_state_at units t m ≡ None
    → unit_state_at (units_after_choice holds units) t m ≡ None
no_unit_chosen holds [] t m e = refl
no_unit_chosen holds (u ∷ units) t m e = (λ i. if chosen_at holds u t m i then Some (unit_after_choice holds u)
    else unit_state_at (units_after_choice holds units) t m)
    ∙ go (u.target == t && u.unit == m) e (λ h. no_unit_chosen holds units t m h)
  where
    go : (x : Bool) → (if x then Some u else unit_state_at units t m) ≡ None
        → (unit_state_at units t m ≡ None → unit_state_at (units_after_choice holds units) t m ≡ None)
        → (if x then Some (unit_after_choice holds u) else unit_state_at (units_after_choice holds units) t m) ≡ None
    go true h rest = absurd (some_none u h)
    go false h rest = rest h

still_outside : (a : Array) (c : Process) → IsOutside a c → IsOutside (settled_array (Steps.with_guest a c None)) c
still_outside a c (inl e) = inl (no_unit_chosen a.holds a.units c.target c.unit e)
still_outside a c (inr e) = inr e

pub guest_may_run : (a : Array) (c : Process) → IsOutside a c → IsUntouched a c.id
    → MayRun (settled_array (Steps.with_guest a c None)) c
guest_may_run a c out h = record {
  running_is = guest_runs a (without_reply c) h.away.guests;
  free = λ i. is_some (guest_new a.guests (without_reply c) h.away.guests i) || not (is_held a.holds c.target c.unit);
  reply = h.reply;
  kind = inl (still_outside a c out);
}

-- It is refused, or fails, with this reply.
pub guest_answered : (a : Array) (c : Process) (reply : Reply) → IsUntouched a c.id
    → IsAnswered (settled_array (Steps.with_listed_reply (Steps.with_guest a c (Some reply)) c.id reply)) c.id
guest_answered a c reply h = record {
  running = record { process = c; reply = Some reply };
  running_is = λ i. if is_some (guest_new a.guests (record { process = c; reply = Some reply }) h.away.guests i)
      then guest_new a.guests (record { process = c; reply = Some reply }) h.away.guests i
      else running_in (settled_array (Steps.with_guest a c (Some reply))).units c.id;
  reply = reply;
  reply_is = refl;
  given = λ i. if self_id c.id i then Some reply else reply_in a.replies c.id;
}

-- ---- it waits, or is current at once

abbrev pub queued : Array → Process → UnitState → Array
queued a c u = record a { units = with_unit a.units (record u { waiting = u.waiting ++ c ∷ [] }) }

pub queued_rests : (a : Array) (c : Process) (u : UnitState) → unit_state_at a.units c.target c.unit ≡ Some u
    → IsUntouched a c.id → IsAtRest (settled_array (queued a c u)) c.id
queued_rests a c u e h =
    let given : Option Reply = reply_in a.replies c.id in
    let over : Bool = has_ended a c.id in
    let units : OnUnits (IsUnanswered given over c.id) a.units = away_units given over c.id a.units h.away.units in
    let own = unit_has (IsUnanswered given over c.id) a.units c.target c.unit u e units in
    let new : UnitState = record u { waiting = u.waiting ++ c ∷ [] } in
    each_settled (IsUnanswered given over c.id) (IsAway c.id) (queued a c u) (record {
      units = with_units (IsUnanswered given over c.id) a.units new units
          (append_waits (IsUnanswered given over c.id) u.waiting c own.0 (λ z. (refl, h.reply, h.open_is)), own.1);
      guests = h.away.guests;
    })

chosen_alone : (pick : Pick) (t : Process) → choice pick (t ∷ []) ≡ Some t
chosen_alone pick t = go pick (is_head (entry_of t).class) (is_ordered (entry_of t).class)
  where
    go : (y : Pick) (c o : Bool)
        → process_at_if (t ∷ []) (picked_place y (runnable_by (if c then Some 0 else None) (entry_of t ∷ []))) ≡ Some t
    go y c o = by y c
      where
        ordered : (x : Bool)
            → (if x then has_none_before [] else not (has_ordered []) && not (is_held_back [] (entry_of t))) ≡ true
        ordered true = refl
        ordered false = refl

        first : (z : Pick) → process_at_if (t ∷ []) (picked_place z (0 ∷ [])) ≡ Some t
        first Pick.First = refl
        first Pick.Last = refl

        by : (z : Pick) (x : Bool)
            → process_at_if (t ∷ []) (picked_place z (runnable_by (if x then Some 0 else None) (entry_of t ∷ [])))
            ≡ Some t
        by z true = first z
        by z false = (λ i. process_at_if (t ∷ [])
            (picked_place z (if ordered (is_ordered (entry_of t).class) i then 0 ∷ [] else [])))
            ∙ first z

made_current : (holds : List Nexus) (u : UnitState) (c : Process) → u.waiting ≡ []
    → has_no_current u.current ≡ true → is_held holds u.target u.unit ≡ false
    → (unit_after_choice holds (record u { waiting = u.waiting ++ c ∷ [] })).current ≡ Some (without_reply c)
made_current holds u c none idle free =
    let new : UnitState = record u { waiting = u.waiting ++ c ∷ [] } in
    (λ i. (if idle i && not (free i) then with_current new (choice u.pick new.waiting) else new).current)
    ∙ (λ i. (with_current new (choice u.pick (none i ++ c ∷ []))).current)
    ∙ (λ i. (with_current new (chosen_alone u.pick c i)).current)

running_new : (holds : List Nexus) (units : List UnitState) (new u : UnitState) (id : ProcId) (r : RunningProcess)
    → OnUnits (IsAway id) units → unit_state_at units new.target new.unit ≡ Some u
    → running_if (unit_after_choice holds new).current id ≡ Some r
    → running_in (units_after_choice holds (with_unit units new)) id ≡ Some r
running_new holds [] new u id r h e f = absurd (none_some u e)
running_new holds (v ∷ units) new u id r h e f =
    go (v.target == new.target && v.unit == new.unit) e (λ g. running_new holds units new u id r h.1 g f)
  where
    go : (x : Bool) → (if x then Some v else unit_state_at units new.target new.unit) ≡ Some u
        → (unit_state_at units new.target new.unit ≡ Some u
        → running_in (units_after_choice holds (with_unit units new)) id ≡ Some r)
        → running_in (units_after_choice holds (if x then new ∷ units else v ∷ with_unit units new)) id ≡ Some r
    go true g rest = λ i. if is_some (f i) then f i else running_in (units_after_choice holds units) id
    go false g rest =
        let none : running_if (unit_after_choice holds v).current id ≡ None = not_current
        (unit_after_choice holds v).current id (chosen (IsAway id) holds v h.0).1 in
        (λ i. if is_some (none i) then none i else running_in (units_after_choice holds (with_unit units new)) id)
        ∙ rest g

pub record IsFoundAt (u : UnitState) (t m : ℕ) : Type 0 where
  pub target_is : u.target ≡ t
  pub unit_is : u.unit ≡ m

pub found_at : (units : List UnitState) (t m : ℕ) (u : UnitState) → unit_state_at units t m ≡ Some u → IsFoundAt u t m
found_at [] t m u e = absurd (none_some u e)
found_at (v ∷ units) t m u e = go (v.target == t && v.unit == m) refl e (λ h. found_at units t m u h)
  where
    go : (x : Bool) → (v.target == t && v.unit == m) ≡ x → (if x then Some v else unit_state_at units t m) ≡ Some u
        → (unit_state_at units t m ≡ Some u → IsFoundAt u t m) → IsFoundAt u t m
    go true z h rest = subst (λ (w : UnitState). IsFoundAt w t m) (same_Some v u h) (record {
      target_is = eqb-true v.target t (and_first (v.target == t) (v.unit == m) z);
      unit_is = eqb-true v.unit m (and_second (v.target == t) (v.unit == m) z);
    })
    go false z h rest = rest h

pub at_once_may_run : (a : Array) (c : Process) (u : UnitState) → unit_state_at a.units c.target c.unit ≡ Some u
    → u.waiting ≡ [] → has_no_current u.current ≡ true → is_held a.holds u.target u.unit ≡ false → IsUntouched a c.id
    → MayRun (settled_array (queued a c u)) c
at_once_may_run a c u e none idle free h =
    let at = found_at a.units c.target c.unit u e in
    let new : UnitState = record u { waiting = u.waiting ++ c ∷ [] } in
    let there : unit_state_at a.units u.target u.unit ≡ Some u =
    (λ i. unit_state_at a.units (at.target_is i) (at.unit_is i)) ∙ e in
    let current : running_if (unit_after_choice a.holds new).current c.id ≡ Some (without_reply c) =
    (λ i. running_if (made_current a.holds u c none idle free i) c.id)
    ∙ (λ i. if self_id c.id i then Some (without_reply c) else None) in
    let runs : running_in (settled_array (queued a c u)).units c.id ≡ Some (without_reply c) = running_new
    a.holds a.units new u c.id (without_reply c) h.away.units there current in
    let guest : guest_at a.guests c.id ≡ None = no_guest a.guests c.id h.away.guests in
    let held : is_held a.holds c.target c.unit ≡ false = (λ i. is_held a.holds (sym at.target_is i) (sym at.unit_is i))
    ∙ free in
    record {
      running_is =
          (λ i. if is_some (guest i) then guest i else running_in (settled_array (queued a c u)).units c.id) ∙ runs;
      free = (λ i. is_some (guest i) || not (held i));
      reply = h.reply;
      kind = inr (queued_rests a c u e h);
    }

-- ---- the events

pub data Arrives (a : Array) (c : Process) (b : Array) : Type 0 where
  as_guest : IsOutside a c → b ≡ settled_array (Steps.with_guest a c None) → Arrives a c b
  in_queue : (u : UnitState) → unit_state_at a.units c.target c.unit ≡ Some u
      → is_request_sense (command_of c.cdb) ≡ false → nat_lt (process_count u) u.depth ≡ true
      → b ≡ settled_array (queued a c u) → Arrives a c b

pub arrives : (s : ScenarioValue) (a b : Array) (t : Process) → process_of s t.id ≡ Some t
    → Steps.step s (Event.Accept t.id) a ≡ Some b → Arrives a t b
arrives s a b t e f =
    go (unit_state_at a.units t.target t.unit) refl ((λ i. Steps.settled_array_if (Steps.accept_step a (sym e i))) ∙ f)
  where
    is_it : (c : Array) → Steps.settled_array_if (Some c) ≡ Some b → b ≡ settled_array c
    is_it c h = sym (same_Some (settled_array c) b h)

    go : (u : Option UnitState) → unit_state_at a.units t.target t.unit ≡ u
        → Steps.settled_array_if (Steps.accept_step_at a t u) ≡ Some b → Arrives a t b
    go None z h = as_guest (inl z) (is_it (Steps.with_guest a t None) h)
    go (Some u) z h = senses (is_request_sense (command_of t.cdb)) refl h
      where
        room : (y : Bool) → nat_lt (process_count u) u.depth ≡ y → is_request_sense (command_of t.cdb) ≡ false
            → Steps.settled_array_if (if y then Some (queued a t u) else None) ≡ Some b → Arrives a t b
        room true w x l = in_queue u z x w (is_it (queued a t u) l)
        room false w x l = absurd (none_some b l)

        senses : (x : Bool) → is_request_sense (command_of t.cdb) ≡ x
            → Steps.settled_array_if (if x then Some (Steps.with_guest a t None) else Steps.queue_step a t u) ≡ Some b
            → Arrives a t b
        senses true x l = as_guest (inr x) (is_it (Steps.with_guest a t None) l)
        senses false x l = room (nat_lt (process_count u) u.depth) refl x l

abbrev pub refused_array : Array → Process → Array
refused_array a c = settled_array (Steps.with_listed_reply (Steps.with_guest a c (Some queue_full)) c.id queue_full)

-- One that is not accepted is refused, for the queue is full then.
pub refuses : (s : ScenarioValue) (a : Array) (c : Process) → AreWithin a.units → process_of s c.id ≡ Some c
    → Steps.step s (Event.Accept c.id) a ≡ None → Steps.step s (Event.Refuse c.id) a ≡ Some (refused_array a c)
refuses s a c within e f = (λ i. Steps.settled_array_if (Steps.refuse_step a (e i))) ∙ go
    (unit_state_at a.units c.target c.unit) refl ((λ i. Steps.settled_array_if (Steps.accept_step a (sym e i))) ∙ f)
  where
    go : (u : Option UnitState) → unit_state_at a.units c.target c.unit ≡ u
        → Steps.settled_array_if (Steps.accept_step_at a c u) ≡ None
        → Steps.settled_array_if (Steps.refuse_step_at a c u) ≡ Some (refused_array a c)
    go None z h = absurd (some_none (settled_array (Steps.with_guest a c None)) h)
    go (Some u) z h = senses (is_request_sense (command_of c.cdb)) h
      where
        room : (y : Bool) → nat_lt (process_count u) u.depth ≡ y
            → Steps.settled_array_if (if y then Some (queued a c u) else None) ≡ None
            → (process_count u == u.depth) ≡ true
        room true w l = absurd (some_none (settled_array (queued a c u)) l)
        room false w l =
            let most : process_count u ≤ u.depth = unit_within a.units c.target c.unit u z within in
            grind (arith, nat_tests)

        senses : (x : Bool)
            → Steps.settled_array_if (if x then Some (Steps.with_guest a c None) else Steps.queue_step a c u) ≡ None
            → Steps.settled_array_if (if not x && process_count u == u.depth
            then Some (Steps.with_listed_reply (Steps.with_guest a c (Some queue_full)) c.id queue_full) else None)
            ≡ Some (refused_array a c)
        senses true l = absurd (some_none (settled_array (Steps.with_guest a c None)) l)
        senses false l = λ i. Steps.settled_array_if (if room (nat_lt (process_count u) u.depth) refl l i
            then Some (Steps.with_listed_reply (Steps.with_guest a c (Some queue_full)) c.id queue_full) else None)

-- It fails before it has arrived (6.6.19).
pub fails_new : (s : ScenarioValue) (a : Array) (c : Process) (code : ℕ) → process_of s c.id ≡ Some c
    → IsUntouched a c.id → Steps.step s (Event.Fail c.id code) a ≡ Some (settled_array
    (Steps.with_listed_reply (Steps.with_guest a c (Some (aborted_reply code))) c.id (aborted_reply code)))
fails_new s a c code e h =
    (λ i. Steps.settled_array_if (Steps.fail_step s a c.id (aborted_reply code) (not_running a c.id h.away i)))
    ∙ (λ i. Steps.settled_array_if (Steps.fail_step_of_new a c.id (aborted_reply code) (e i)))
    ∙ (λ i. Steps.settled_array_if (if not_waiting a.units c.id h.away.units i || h.open_is i then None
    else Some (Steps.with_listed_reply (Steps.with_guest a c (Some (aborted_reply code))) c.id (aborted_reply code))))
