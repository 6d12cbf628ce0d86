-- In a history that the plain disk array permits each command that arrives is refused exactly where it finds the queue
-- of its unit full (7.8).
use Rattle.delivery_laws.proofs
use proofs.Names.{ℕ, ◌≡◌, ◌+◌, Bool, true, false, not, ◌&&◌, ◌∙◌, List, [], ◌∷◌, ◌++◌, Option, Some, None, refl, sym}
use proofs.Names.{ap, arith, and_from, ne_eqb, nat_tests, if◌then◌else◌, ◌==◌, is_some, nat_lt, wrong', and_false}
use proofs.Names.{Event, ProcId, command_of, ScenarioValue, array_after, array_step, is_request_sense, Process}
use proofs.Names.{process_of, accept_step, accept_step_at, event_step, process_count, queue_step, settled_array_if}
use proofs.Names.{with_guest, Array, UnitState, unit_state_at, with_unit, finds_full_queue, finds_full_queue_if}
use proofs.Names.{none_some, arrive_by_room, arrives_by_room}
use Rattle.progress_laws.specs.book_laws.specs.FullQueues.{is_full}

-- What the array refuses (refusals_have_causes of the books).
abbrev pub AreRefusals : Type 0
AreRefusals = (s : ScenarioValue) (a : Array) (id : ProcId)
    → is_some (event_step s a (Event.Refuse id)) ≡ finds_full_queue a (process_of s id)

below : (a b : ℕ) → nat_lt a b ≡ true → (a == b) ≡ false
below a b e = ne_eqb a b (λ z. grind (arith, nat_tests))

-- One that is taken finds room.
taken_at : (a : Array) (c : Process) (o : Option UnitState) → is_some (accept_step_at a c o) ≡ true
    → (not (is_request_sense (command_of c.cdb)) && is_full o) ≡ false
taken_at a c None e = and_false (not (is_request_sense (command_of c.cdb)))
taken_at a c (Some u) e = go (is_request_sense (command_of c.cdb)) refl
  where
    queued : is_some (queue_step a c u) ≡ true → (process_count u == u.depth) ≡ false
    queued z = by (nat_lt (process_count u) u.depth) refl
      where
        by : (q : Bool) → nat_lt (process_count u) u.depth ≡ q → (process_count u == u.depth) ≡ false
        by true y = below (process_count u) u.depth y
        by false y = wrong' (sym (ap (λ (q : Bool). is_some (if q then Some (record a {
          units = with_unit a.units (record u { waiting = u.waiting ++ c ∷ [] });
        }) else None)) y) ∙ z)

    go : (q : Bool) → is_request_sense (command_of c.cdb) ≡ q
        → (not (is_request_sense (command_of c.cdb)) && is_full (Some u)) ≡ false
    go true f = ap (λ (q : Bool). not q && (process_count u == u.depth)) f
    go false f = ap (λ (q : Bool). not q && (process_count u == u.depth)) f
        ∙ queued (sym (ap (λ (q : Bool). is_some (if q then Some (with_guest a c None) else queue_step a c u)) f) ∙ e)

taken : (a : Array) (o : Option Process) → is_some (accept_step a o) ≡ true → finds_full_queue a o ≡ false
taken a None e = refl
taken a (Some c) e = taken_at a c (unit_state_at a.units c.target c.unit) e

some_step : (o : Option Array) (d : Array) → settled_array_if o ≡ Some d → is_some o ≡ true
some_step None d e = none_some d e
some_step (Some x) d e = refl

pub by_room : (s : ScenarioValue) (h : List Event) (a : Array) → AreRefusals → array_after s h ≡ Some a
    → arrive_by_room s h ≡ true
by_room s [] a refuses e = refl
by_room s (x ∷ h) a refuses e = go (array_after s h) refl e (λ b z. by_room s h b refuses z)
  where
    event : (b : Array) (y : Event) → array_after s h ≡ Some b → is_some (event_step s b y) ≡ true
        → arrives_by_room s h y ≡ true
    event b (Event.Accept id) z w = ap (λ (q : Bool). not q)
        (ap (λ (o : Option Array). finds_full_queue_if o (process_of s id)) z ∙ taken b (process_of s id) w)
    event b (Event.Refuse id) z w =
        ap (λ (o : Option Array). finds_full_queue_if o (process_of s id)) z ∙ sym (refuses s b id) ∙ w
    event b _ z w = refl

    go : (o : Option Array) → array_after s h ≡ o → array_step s x o ≡ Some a
        → ((b : Array) → array_after s h ≡ Some b → arrive_by_room s h ≡ true) → arrive_by_room s (x ∷ h) ≡ true
    go None z st rest = none_some a st
    go (Some b) z st rest = and_from (arrives_by_room s h x) (arrive_by_room s h)
        (event b x z (some_step (event_step s b x) a st)) (rest b z)
