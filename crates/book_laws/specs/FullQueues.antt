-- Why a command ends with QUEUE FULL, or with the sense of ABORTED COMMAND, in a history of events alone (7.3, 7.8,
-- 8.2.14).
use Rattle.std.specs.Prelude.{ℕ, Bool, true, false, not, ◌&&◌, ◌||◌, ◌==◌, List, [], ◌∷◌, Option, Some, None, nat_lt}
use Rattle.std.specs.List.{list_any}
use Rattle.due_model.specs.bus_base.specs.declared.ProcId.{ProcId}
use Rattle.due_model.specs.bus_base.specs.declared.Event.{Event}
use Rattle.due_model.specs.bus_base.specs.declared.Event.TheVariants as events
use Rattle.due_model.specs.cdb_codec.specs.declared.sense.TheConstants.{ABORTED_COMMAND}
use Rattle.due_model.specs.cdb_codec.specs.declared.status.TheConstants.{QUEUE_FULL}
use Rattle.due_model.specs.cdb_codec.specs.Cdb.{command_of}
use Rattle.due_model.specs.scenario.specs.Value.{ScenarioValue}
use Rattle.due_model.specs.array_model.specs.Processes.{Process, process_of}
use Rattle.due_model.specs.array_model.specs.Execution.{Reply, is_request_sense}
use Rattle.due_model.specs.array_model.specs.Units.{UnitState, Nexus, Array, same_nexus, nexus_of, unit_state_at}
use Rattle.due_model.specs.array_model.specs.Steps.{process_count}
use Rattle.due_model.specs.array_model.specs.ArrayHistory.{array_after}
use Rattle.due_model.specs.dialogue_model.specs.declared.exchange.Arrival.{Arrival}
use Rattle.due_model.specs.dialogue_model.specs.declared.exchange.Arrival.TheVariants as arrivals
use Rattle.due_model.specs.Telling.{same_event}

-- The history has this event.
abbrev pub has_event : List Event → Event → Bool
has_event history event = list_any (λ e. same_event e event) history

-- ---- QUEUE FULL

-- At a unit that is there, the commands that wait and the current one are as many as its depth.
abbrev pub is_full : Option UnitState → Bool
is_full None = false
is_full (Some u) = process_count u == u.depth

-- A command for which the queue is full; a REQUEST SENSE needs no place in it.
abbrev pub finds_full_queue : Array → Option Process → Bool
finds_full_queue a None = false
finds_full_queue a (Some p) =
    not (is_request_sense (command_of p.cdb)) && is_full (unit_state_at a.units p.target p.unit)

-- There is no room for it: no fewer are there than the depth.
abbrev pub is_crowded : Option UnitState → Bool
is_crowded None = false
is_crowded (Some u) = not (nat_lt (process_count u) u.depth)

abbrev pub lacks_room : Array → Process → Bool
lacks_room a p = not (is_request_sense (command_of p.cdb)) && is_crowded (unit_state_at a.units p.target p.unit)

-- What a target plans for it as it arrives.
abbrev pub is_refusal : Arrival → Bool
is_refusal arrivals.Refused = true
is_refusal arrivals.Guest = false
is_refusal arrivals.AtOnce = false
is_refusal arrivals.Queued = false

abbrev pub finds_full_queue_if : Option Array → Option Process → Bool
finds_full_queue_if None p = false
finds_full_queue_if (Some a) p = finds_full_queue a p

-- The process was refused in this history, the newest event first, and the queue was full then.
abbrev pub is_refused_at : ScenarioValue → List Event → ProcId → Event → Bool
is_refused_at s before id event =
    same_event event (events.Refuse id) && finds_full_queue_if (array_after s before) (process_of s id)

abbrev pub was_refused : ScenarioValue → List Event → ProcId → Bool
was_refused s [] id = false
was_refused s (event ∷ history) id = is_refused_at s history id event || was_refused s history id

-- ---- a reply

-- QUEUE FULL is of a process that was refused; the sense key ABORTED COMMAND is of one that failed with that code.
abbrev pub has_cause : ScenarioValue → List Event → ProcId → Reply → Bool
has_cause s history id reply =
    (not (reply.status == QUEUE_FULL) || was_refused s history id)
    && (not (reply.sense.key == ABORTED_COMMAND) || has_event history (events.Fail id reply.sense.asc))

-- ---- a sense that is stored

-- A process of this initiator at this unit failed with this code.
abbrev pub is_at_nexus : Option Process → Nexus → Bool
is_at_nexus None nexus = false
is_at_nexus (Some p) nexus = same_nexus (nexus_of p) nexus

abbrev pub is_failure_at : ScenarioValue → Event → Nexus → ℕ → Bool
is_failure_at s (events.Fail id x) nexus code = x == code && is_at_nexus (process_of s id) nexus
is_failure_at s _ nexus code = false

abbrev pub has_failure_at : ScenarioValue → List Event → Nexus → ℕ → Bool
has_failure_at s history nexus code = list_any (λ e. is_failure_at s e nexus code) history
