-- The steps of the plain disk array, one for each event of a history; a step is not allowed everywhere.
use Rattle.std.specs.Prelude.{ℕ, ◌+◌, Bool, true, false, not, ◌&&◌, ◌||◌, ◌==◌, List, [], ◌∷◌, ◌++◌, length, Option}
use Rattle.std.specs.Prelude.{Some, None, is_some, is_none, nat_lt, if◌then◌else◌}
use Rattle.std.specs.List.{list_any}
use Rattle.bus_base.specs.declared.ProcId.{ProcId}
use Rattle.bus_base.specs.declared.AbortKind.{AbortKind}
use Rattle.bus_base.specs.declared.AbortKind.TheVariants as aborts
use Rattle.bus_base.specs.declared.Event.{Event}
use Rattle.bus_base.specs.declared.Event.TheVariants as events
use Rattle.cdb_codec.specs.declared.Sense.{Sense}
use Rattle.cdb_codec.specs.declared.sense.TheConstants.{ABORTED_COMMAND, RESET_OCCURRED}
use Rattle.cdb_codec.specs.declared.status.TheConstants.{GOOD, CHECK_CONDITION}
use Rattle.cdb_codec.specs.Cdb.{command_of}
use Rattle.scenario.specs.declared.value.HostDef.{HostDef}
use Rattle.scenario.specs.declared.value.Tag.{Tag}
use Rattle.scenario.specs.declared.value.Tag.TheVariants as tags
use Rattle.scenario.specs.Value.{ScenarioValue}
use Rattle.array_model.specs.Processes.{Process, process_of, same_id}
use Rattle.array_model.specs.Contents.{Contents, no_contents}
use Rattle.array_model.specs.Execution.{Reply, CommandContext, Execution, execution, is_request_sense, check_condition}
use Rattle.array_model.specs.Execution.{queue_full, sense_of, reset_occurred, commands_cleared}
use Rattle.array_model.specs.Order.{without_process}
use Rattle.array_model.specs.Units.{RunningProcess, UnitState, Nexus, Array, sense_of_nexus, senses_without}
use Rattle.array_model.specs.Units.{nexuses_without, is_held, unit_state_at, with_unit, guest_at, without_guest}
use Rattle.array_model.specs.Units.{nexus_of, settled_array}

-- ---- arrival

abbrev pub running_count : Option RunningProcess → ℕ
running_count None = 0
running_count (Some r) = 1

-- The waiting processes and the current one.
abbrev pub process_count : UnitState → ℕ
process_count u = length u.waiting + running_count u.current

abbrev pub with_guest : Array → Process → Option Reply → Array
with_guest a p reply = record a { guests = a.guests ++ record { process = p; reply = reply } ∷ [] }

abbrev pub with_listed_reply : Array → ProcId → Reply → Array
with_listed_reply a id reply = record a { replies = (id, reply) ∷ a.replies }

abbrev pub queue_step : Array → Process → UnitState → Option Array
queue_step a p u =
    if nat_lt (process_count u) u.depth then Some
    (record a { units = with_unit a.units (record u { waiting = u.waiting ++ p ∷ [] }) }) else None

abbrev pub accept_step_at : Array → Process → Option UnitState → Option Array
accept_step_at a p None = Some (with_guest a p None)
accept_step_at a p (Some u) =
    if is_request_sense (command_of p.cdb) then Some (with_guest a p None) else queue_step a p u

abbrev pub accept_step : Array → Option Process → Option Array
accept_step a None = None
accept_step a (Some p) = accept_step_at a p (unit_state_at a.units p.target p.unit)

-- At a full queue: it is a guest with QUEUE FULL.
abbrev pub refuse_step_at : Array → Process → Option UnitState → Option Array
refuse_step_at a p None = None
refuse_step_at a p (Some u) =
    if not (is_request_sense (command_of p.cdb)) && process_count u == u.depth
    then Some (with_listed_reply (with_guest a p (Some queue_full)) p.id queue_full) else None

abbrev pub refuse_step : Array → Option Process → Option Array
refuse_step a None = None
refuse_step a (Some p) = refuse_step_at a p (unit_state_at a.units p.target p.unit)

-- ---- running

abbrev pub context_at : Array → Nexus → Option UnitState → CommandContext
context_at a nexus None = record {
  present = false;
  contents = no_contents;
  stored = sense_of_nexus a.senses nexus;
  attention = sense_of_nexus a.attentions nexus;
}
context_at a nexus (Some u) = record {
  present = true;
  contents = u.contents;
  stored = sense_of_nexus a.senses nexus;
  attention = sense_of_nexus a.attentions nexus;
}

abbrev pub with_contents : Array → Option UnitState → Contents → Array
with_contents a None contents = a
with_contents a (Some u) contents = record a { units = with_unit a.units (record u { contents = contents }) }

abbrev pub without_attention : Array → Bool → Nexus → Array
without_attention a true nexus = record a { attentions = senses_without a.attentions nexus }
without_attention a false nexus = a

-- The process has this reply now, as guest or as the current process of its unit.
abbrev pub guests_with_reply : List RunningProcess → ProcId → Reply → List RunningProcess
guests_with_reply [] id reply = []
guests_with_reply (g ∷ guests) id reply =
    if same_id g.process.id id then record g { reply = Some reply } ∷ guests else g ∷ guests_with_reply guests id reply

abbrev pub current_with_reply : Option RunningProcess → ProcId → Reply → Option RunningProcess
current_with_reply None id reply = None
current_with_reply (Some r) id reply =
    if same_id r.process.id id then Some (record r { reply = Some reply }) else Some r

abbrev pub units_with_reply : List UnitState → ProcId → Reply → List UnitState
units_with_reply [] id reply = []
units_with_reply (u ∷ units) id reply =
    record u { current = current_with_reply u.current id reply } ∷ units_with_reply units id reply

abbrev pub with_reply : Array → ProcId → Reply → Array
with_reply a id reply = record (with_listed_reply a id reply) {
  guests = guests_with_reply a.guests id reply;
  units = units_with_reply a.units id reply;
}

abbrev pub running_if : Option RunningProcess → ProcId → Option RunningProcess
running_if None id = None
running_if (Some r) id = if same_id r.process.id id then Some r else None

abbrev pub running_in : List UnitState → ProcId → Option RunningProcess
running_in [] id = None
running_in (u ∷ units) id = if is_some (running_if u.current id) then running_if u.current id else running_in units id

-- The guest or the current process of this number.
abbrev pub running_process : Array → ProcId → Option RunningProcess
running_process a id = if is_some (guest_at a.guests id) then guest_at a.guests id else running_in a.units id

abbrev pub after_execution : Array → Process → Option UnitState → Execution → Array
after_execution a p u done =
    with_reply (with_contents (without_attention a done.reported (nexus_of p)) u done.contents) p.id done.reply

abbrev pub after_execution_at : Array → Process → Option UnitState → Array
after_execution_at a p u = after_execution a p u (execution (context_at a (nexus_of p) u) p.cdb p.sent)

-- A guest runs at any time, a current process only while the hold of its unit is empty.
abbrev pub run_step : Array → Bool → Option RunningProcess → Option Array
run_step a guest None = None
run_step a guest (Some r) =
    if is_none r.reply && (guest || not (is_held a.holds r.process.target r.process.unit))
    then Some (after_execution_at a r.process (unit_state_at a.units r.process.target r.process.unit)) else None

-- ---- failing: CHECK CONDITION with ABORTED COMMAND and this code

abbrev pub is_waiting : List UnitState → ProcId → Bool
is_waiting units id = list_any (λ (u : UnitState). list_any (λ (p : Process). same_id p.id id) u.waiting) units

abbrev pub has_ended : Array → ProcId → Bool
has_ended a id = list_any (λ (p : ProcId). same_id p id) a.ended

abbrev pub fail_step_of_new : Array → ProcId → Reply → Option Process → Option Array
fail_step_of_new a id reply None = None
fail_step_of_new a id reply (Some p) =
    if is_waiting a.units id || has_ended a id then None
    else Some (with_listed_reply (with_guest a p (Some reply)) id reply)

abbrev pub fail_step : ScenarioValue → Array → ProcId → Reply → Option RunningProcess → Option Array
fail_step s a id reply (Some r) = if is_none r.reply then Some (with_reply a id reply) else None
fail_step s a id reply None = fail_step_of_new a id reply (process_of s id)

-- ---- ending

abbrev pub unit_without : UnitState → ProcId → UnitState
unit_without u id = record u {
  waiting = without_process u.waiting id;
  current =
      if is_some (running_if u.current id) then None else u.current;
}

abbrev pub units_without : List UnitState → ProcId → List UnitState
units_without [] id = []
units_without (u ∷ units) id = unit_without u id ∷ units_without units id

abbrev pub array_without : Array → ProcId → Array
array_without a id =
    record a { units = units_without a.units id; guests = without_guest a.guests id; ended = id ∷ a.ended }

-- CHECK CONDITION stores its sense and puts the initiator into the hold; a REQUEST SENSE that ends GOOD takes both
-- away.
abbrev pub after_status : Array → Process → Reply → Array
after_status a p reply =
    if reply.status == CHECK_CONDITION then record a {
      senses = (nexus_of p, reply.sense) ∷ senses_without a.senses (nexus_of p);
      holds = nexus_of p ∷ nexuses_without a.holds (nexus_of p);
    }
    else if reply.status == GOOD && is_request_sense (command_of p.cdb)
    then record a { senses = senses_without a.senses (nexus_of p); holds = nexuses_without a.holds (nexus_of p) } else a

abbrev pub end_step_with : Array → Process → ℕ → Option Reply → Option Array
end_step_with a p status None = None
end_step_with a p status (Some reply) =
    if reply.status == status then Some (array_without (after_status a p reply) p.id) else None

abbrev pub end_step : Array → ℕ → Option RunningProcess → Option Array
end_step a status None = None
end_step a status (Some r) = end_step_with a r.process status r.reply

abbrev pub loss_step : Array → ProcId → Option Array
loss_step a id = if has_ended a id then None else Some (array_without a id)

-- ---- aborts and resets

-- The processes that this test drops leave.
abbrev pub kept_processes : (Process → Bool) → List Process → List Process
kept_processes drops [] = []
kept_processes drops (p ∷ waiting) = if drops p then kept_processes drops waiting else p ∷ kept_processes drops waiting

abbrev pub kept_running : (Process → Bool) → Option RunningProcess → Option RunningProcess
kept_running drops None = None
kept_running drops (Some r) = if drops r.process then None else Some r

abbrev pub kept_guests : (Process → Bool) → List RunningProcess → List RunningProcess
kept_guests drops [] = []
kept_guests drops (g ∷ guests) = if drops g.process then kept_guests drops guests else g ∷ kept_guests drops guests

abbrev pub kept_units : (Process → Bool) → List UnitState → List UnitState
kept_units drops [] = []
kept_units drops (u ∷ units) =
    record u { waiting = kept_processes drops u.waiting; current = kept_running drops u.current }
    ∷ kept_units drops units

abbrev pub without_dropped : Array → (Process → Bool) → Array
without_dropped a drops = record a { units = kept_units drops a.units; guests = kept_guests drops a.guests }

abbrev pub is_of_unit : Process → ℕ → ℕ → Bool
is_of_unit p target unit = p.target == target && p.unit == unit

abbrev pub has_tag : Tag → ℕ → Bool
has_tag tags.Untagged n = false
has_tag (tags.Simple tag) n = tag == n
has_tag (tags.Ordered tag) n = tag == n
has_tag (tags.Head tag) n = tag == n

-- An attention becomes pending; one that is pending since a reset stays.
abbrev pub is_reset_pending : Option Sense → Bool
is_reset_pending None = false
is_reset_pending (Some sense) = sense.asc == RESET_OCCURRED

abbrev pub reset_attention : Array → Nexus → Array
reset_attention a nexus = record a { attentions = (nexus, reset_occurred) ∷ senses_without a.attentions nexus }

abbrev pub cleared_attention : Array → Nexus → Array
cleared_attention a nexus =
    if is_reset_pending (sense_of_nexus a.attentions nexus) then a else record a {
      attentions = (nexus, commands_cleared) ∷ senses_without a.attentions nexus;
    }

-- Every initiator gets the attention of a reset at these units.
abbrev pub reset_attentions : List HostDef → ℕ → ℕ → Array → Array
reset_attentions [] target unit a = a
reset_attentions (h ∷ hosts) target unit a =
    reset_attentions hosts target unit (reset_attention a (record { initiator = h.dev; target = target; unit = unit }))

abbrev pub unit_reset_attentions : List HostDef → List UnitState → (UnitState → Bool) → Array → Array
unit_reset_attentions hosts [] is_one a = a
unit_reset_attentions hosts (u ∷ units) is_one a =
    unit_reset_attentions hosts units is_one (if is_one u then reset_attentions hosts u.target u.unit a else a)

-- Each other initiator that lost a process of the unit is told of it.
abbrev pub cleared_attentions : ℕ → List Process → Array → Array
cleared_attentions initiator [] a = a
cleared_attentions initiator (p ∷ lost) a =
    cleared_attentions initiator lost (if p.initiator == initiator then a else cleared_attention a (nexus_of p))

abbrev pub processes_of : Option RunningProcess → List Process → List Process
processes_of None waiting = waiting
processes_of (Some r) waiting = r.process ∷ waiting

abbrev pub unit_processes : Option UnitState → List Process
unit_processes None = []
unit_processes (Some u) = processes_of u.current u.waiting

abbrev pub kept_nexuses : (Nexus → Bool) → List Nexus → List Nexus
kept_nexuses drops [] = []
kept_nexuses drops (p ∷ nexuses) = if drops p then kept_nexuses drops nexuses else p ∷ kept_nexuses drops nexuses

abbrev pub kept_senses : (Nexus → Bool) → List (Nexus × Sense) → List (Nexus × Sense)
kept_senses drops [] = []
kept_senses drops (entry ∷ entries) =
    if drops entry.0 then kept_senses drops entries else entry ∷ kept_senses drops entries

abbrev pub abort_step : ScenarioValue → Array → ℕ → ℕ → ℕ → AbortKind → Array
abort_step s a initiator target unit aborts.All =
    let nexus : Nexus = record { initiator = initiator; target = target; unit = unit } in
    record (without_dropped a (λ p. p.initiator == initiator && is_of_unit p target unit)) {
      senses = senses_without a.senses nexus;
      holds = nexuses_without a.holds nexus;
    }
abort_step s a initiator target unit (aborts.Tag n) =
    without_dropped a (λ p. p.initiator == initiator && is_of_unit p target unit && has_tag p.tag n)
abort_step s a initiator target unit aborts.WholeQueue = cleared_attentions initiator
    (unit_processes (unit_state_at a.units target unit)) (without_dropped a (λ p. is_of_unit p target unit))
abort_step s a initiator target unit aborts.Device = unit_reset_attentions s.hosts a.units (λ u. u.target == target)
    (record (without_dropped a (λ p. p.target == target)) {
      senses = kept_senses (λ q. q.target == target) a.senses;
      holds = kept_nexuses (λ q. q.target == target) a.holds;
    })

abbrev pub reset_step : ScenarioValue → Array → Array
reset_step s a = unit_reset_attentions s.hosts a.units (λ u. true)
    (record (without_dropped a (λ p. true)) { senses = []; holds = [] })

-- ---- the step of an event, and the choices that follow it

abbrev pub event_step : ScenarioValue → Array → Event → Option Array
event_step s a (events.Accept id) = accept_step a (process_of s id)
event_step s a (events.Refuse id) = refuse_step a (process_of s id)
event_step s a (events.Run id) = run_step a (is_some (guest_at a.guests id)) (running_process a id)
event_step s a (events.Fail id code) =
    fail_step s a id (check_condition (sense_of ABORTED_COMMAND code 0x00)) (running_process a id)
event_step s a (events.End id status) = end_step a status (running_process a id)
event_step s a (events.Lost id) = loss_step a id
event_step s a (events.Aborted initiator target unit what) = Some (abort_step s a initiator target unit what)
event_step s a (events.Reset dev) = Some (reset_step s a)

abbrev pub settled_array_if : Option Array → Option Array
settled_array_if None = None
settled_array_if (Some a) = Some (settled_array a)

abbrev pub step : ScenarioValue → Event → Array → Option Array
step s event a = settled_array_if (event_step s a event)
