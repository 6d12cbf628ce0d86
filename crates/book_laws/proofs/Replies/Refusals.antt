-- Who is refused: in the plain disk array, and by what a target plans.
use Rattle.book_laws.proofs
use proofs.Names.{◌≡◌, Bool, true, false, List, [], ◌∷◌, ◌∙◌, refl, sym, ap, Option, Some, None, not, ◌&&◌, ◌++◌}
use proofs.Names.{and_parts, if◌then◌else◌, ◌==◌, is_some, nat_lt, Event, ProcId, Row, command_of, QUEUE_FULL}
use proofs.Names.{ScenarioValue, Policy, is_request_sense, Process, process_of, refuse_step, refuse_step_at, event_step}
use proofs.Names.{process_count, UnitState, Array, unit_state_at, row_reading, row_events_by, is_never, arrival_in}
use proofs.Names.{arrival_by, Arrival, Room, is_allowed, allowed, RunState, array_of, process_served, run_state}
use proofs.Names.{array_after_events, is_idle_unit, room_of, arrival_if, arrival_of, has_event, finds_full_queue}
use proofs.{Names.{lacks_room, is_refusal, was_refused}, Replies.Facts.{full_caused}}
use Rattle.due_model.specs.array_model.specs.ArrayHistory as Play

pub refused_exactly : (s : ScenarioValue) (a : Array) (id : ProcId)
    → is_some (event_step s a (Event.Refuse id)) ≡ finds_full_queue a (process_of s id)
refused_exactly s a id = go (process_of s id)
  where
    some_if : (q : Bool) (b : Array) → is_some (if q then Some b else None) ≡ q
    some_if true b = refl
    some_if false b = refl

    never : (q : Bool) → false ≡ (q && false)
    never true = refl
    never false = refl

    at : (c : Process) (o : Option UnitState) → is_some (refuse_step_at a c o)
        ≡ (not (is_request_sense (command_of c.cdb)) && Rattle.book_laws.specs.FullQueues.is_full o)
    at c None = never (not (is_request_sense (command_of c.cdb)))
    at c (Some u) = some_if (not (is_request_sense (command_of c.cdb)) && process_count u == u.depth) _

    go : (o : Option Process) → is_some (refuse_step a o) ≡ finds_full_queue a o
    go None = refl
    go (Some c) = at c (unit_state_at a.units c.target c.unit)

-- ---- what a target plans

refusal_in : (policy : Policy) (room : Room) → is_refusal (arrival_in policy room) ≡ room.full
refusal_in policy room = go room.full (is_never policy && room.idle)
  where
    go : (f q : Bool) → is_refusal (if f then Arrival.Refused else if q then Arrival.AtOnce else Arrival.Queued) ≡ f
    go true q = refl
    go false true = refl
    go false false = refl

refusal_by : (policy : Policy) (senses : Bool) (a : Array) (o : Option UnitState)
    → is_refusal (arrival_by policy senses (room_of a o))
    ≡ (not senses && Rattle.book_laws.specs.FullQueues.is_crowded o)
refusal_by policy true a None = refl
refusal_by policy false a (Some u) =
    refusal_in policy (record { full = not (nat_lt (process_count u) u.depth); idle = is_idle_unit a u })
refusal_by policy _ a _ = refl

pub refused_by_plan : (s : ScenarioValue) (k : RunState) (policy : Policy) (c : Process) → process_served s k ≡ Some c
    → is_refusal (arrival_of s k policy) ≡ lacks_room (array_of s k) c
refused_by_plan s k policy c e = (λ i. is_refusal (arrival_if policy (array_of s k) (e i)))
    ∙ refusal_by policy (is_request_sense (command_of c.cdb)) (array_of s k)
    (unit_state_at (array_of s k).units c.target c.unit)

-- ---- the history that rows tell

array_kept : (s : ScenarioValue) (rows : List Row)
    → (run_state s rows).array ≡ Play.array_after s (run_state s rows).story.history
array_kept s [] = refl
array_kept s (row ∷ rows) =
    let k : RunState = run_state s rows in
    ap (λ (a : Option Array). array_after_events s a (row_events_by s k.story (row_reading k.story.bus_state row) row))
    (array_kept s rows) ∙ played s k.story.history (row_events_by s k.story (row_reading k.story.bus_state row) row)
  where
    played : (s : ScenarioValue) (history shown : List Event)
        → array_after_events s (Play.array_after s history) shown ≡ Play.array_after s (shown ++ history)
    played s history [] = refl
    played s history (event ∷ shown) = ap (Play.array_step s event) (played s history shown)

pub allowed_array : (s : ScenarioValue) (rows : List Row) → allowed s rows ≡ true
    → is_some (run_state s rows).array ≡ true
allowed_array s [] h = refl
allowed_array s (row ∷ rows) h =
    let k : RunState = run_state s rows in
    (and_parts (allowed s rows) (is_allowed s k row (row_reading k.story.bus_state row)) h).1

pub full_in_trace : (s : ScenarioValue) (rows : List Row) (id : ProcId) → allowed s rows ≡ true
    → has_event (run_state s rows).story.history (Event.End id QUEUE_FULL) ≡ true
    → was_refused s (run_state s rows).story.history id ≡ true
full_in_trace s rows id h e = full_caused s (run_state s rows).story.history id
    ((λ i. is_some (sym (array_kept s rows) i)) ∙ allowed_array s rows h) e
