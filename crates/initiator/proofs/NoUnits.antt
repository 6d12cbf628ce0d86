-- No event gives a device a unit, so no process becomes ready where the scenario has none.
use Rattle.std.proofs.Common.{ℕ, ◌≡◌, Bool, true, false, List, [], ◌∷◌, ◌++◌, ◌∙◌, refl, sym, ap, Option, Some, None}
use Rattle.std.specs.Prelude.{if◌then◌else◌, ◌&&◌, ◌||◌, ◌==◌, ◌+◌, not, is_some, is_none, nat_lt}
use Rattle.std.proofs.lemmas.Bool.{eqb-true}
use Rattle.bus_base.specs.declared.ProcId.{ProcId}
use Rattle.bus_base.specs.declared.AbortKind.{AbortKind}
use Rattle.bus_base.specs.declared.AbortKind.TheVariants as aborts
use Rattle.bus_base.specs.declared.Event.{Event}
use Rattle.bus_base.specs.declared.Event.TheVariants as events
use Rattle.bus_trace.specs.declared.Row.{Row}
use Rattle.bus_trace.specs.declared.connection.Connection.{Connection}
use Rattle.bus_trace.specs.Terms.{connection}
use Rattle.cdb_codec.specs.declared.status.TheConstants.{GOOD, CHECK_CONDITION}
use Rattle.cdb_codec.specs.declared.sense.TheConstants.{ABORTED_COMMAND}
use Rattle.cdb_codec.specs.Cdb.{command_of}
use Rattle.scenario.specs.declared.value.UnitDef.{UnitDef}
use Rattle.scenario.specs.Lookups.{units_of}
use Rattle.scenario.specs.Value.{ScenarioValue}
use Rattle.due_model.specs.array_model.specs.Processes.{Process, process_of}
use Rattle.due_model.specs.array_model.specs.Contents.{Contents}
use Rattle.due_model.specs.array_model.specs.Execution.{Reply, Execution, execution, is_request_sense, check_condition}
use Rattle.due_model.specs.array_model.specs.Execution.{queue_full, sense_of}
use Rattle.due_model.specs.array_model.specs.Units.{RunningProcess, UnitState, Nexus, Array, nexuses_without, is_held}
use Rattle.due_model.specs.array_model.specs.Units.{unit_state_at}
use Rattle.due_model.specs.array_model.specs.Units.{with_unit, guest_at, nexus_of, units_after_choice, starting_units}
use Rattle.due_model.specs.array_model.specs.Steps.{process_count, with_guest, with_listed_reply, queue_step}
use Rattle.due_model.specs.array_model.specs.Steps.{accept_step_at, accept_step, refuse_step_at, refuse_step}
use Rattle.due_model.specs.array_model.specs.Steps.{context_at, with_contents, without_attention, units_with_reply}
use Rattle.due_model.specs.array_model.specs.Steps.{with_reply, running_process, after_execution, after_execution_at}
use Rattle.due_model.specs.array_model.specs.Steps.{run_step, is_waiting, has_ended, fail_step_of_new, fail_step}
use Rattle.due_model.specs.array_model.specs.Steps.{units_without, array_without, after_status, end_step_with, end_step}
use Rattle.due_model.specs.array_model.specs.Steps.{loss_step, kept_units, is_of_unit, has_tag, without_dropped}
use Rattle.due_model.specs.array_model.specs.Steps.{unit_processes, kept_nexuses, kept_senses, abort_step, reset_step}
use Rattle.due_model.specs.array_model.specs.Steps.{event_step, settled_array_if}
use Rattle.due_model.specs.array_model.specs.ArrayHistory.{array_step}
use Rattle.story_model.specs.HistoryEvents.{row_events_by}
use Rattle.story_model.specs.BusState.{row_reading}
use Rattle.due_model.specs.RunState.{or_start, array_of, RunState}
use Rattle.due_model.specs.RunSteps.{array_after_events, run_state}
use Rattle.due_model.specs.Wants.{since_of, seek_of, ready_among, ready_of}
use Rattle.due_model.specs.dialogue_model.specs.Wants.{Ready, ready_in, ready_by}
use Rattle.initiator_books.specs.scsi_device.specs.NoUnits.{has_unit, HasNoUnit}
use Rattle.initiator.specs.States.{IsNoTarget}
use Rattle.bus_base.proofs.Tests.{and_first, or_none_first, or_none_second}
use Rattle.due_model.specs.array_model.proofs.SeatEvents.{status_units}
use Rattle.due_model.specs.array_model.proofs.SeatSteps.{choice_target}
use Rattle.due_model.specs.array_model.specs.Seats.{current_of}
use Rattle.due_model.specs.array_model.proofs.ArrayUnits.{cleared_units, unit_reset_units}

-- ---- the units of a device

-- One of these units is of this device.
abbrev has_unit_state : List UnitState → ℕ → Bool
has_unit_state [] dev = false
has_unit_state (u ∷ units) dev = u.target == dev || has_unit_state units dev

abbrev has_unit_state_if : Option Array → ℕ → Bool
has_unit_state_if None dev = false
has_unit_state_if (Some a) dev = has_unit_state a.units dev

found_no_unit : (units : List UnitState) (dev n : ℕ) → has_unit_state units dev ≡ false
    → unit_state_at units dev n ≡ None
found_no_unit [] dev n h = refl
found_no_unit (u ∷ units) dev n h =
    (λ i. if or_none_first (u.target == dev) (has_unit_state units dev) h i && u.unit == n then Some u
    else unit_state_at units dev n)
    ∙ found_no_unit units dev n (or_none_second (u.target == dev) (has_unit_state units dev) h)

starting_targets : (s : ScenarioValue) (units : List UnitDef) (dev : ℕ)
    → has_unit_state (starting_units s units) dev ≡ has_unit units dev
starting_targets s [] dev = refl
starting_targets s (u ∷ units) dev = ap (λ (b : Bool). u.target == dev || b) (starting_targets s units dev)

-- ---- each change of the units keeps their targets

with_unit_targets : (units : List UnitState) (new : UnitState) (dev : ℕ)
    → has_unit_state (with_unit units new) dev ≡ has_unit_state units dev
with_unit_targets [] new dev = refl
with_unit_targets (u ∷ units) new dev =
    go (with_unit_targets units new dev) (u.target == new.target && u.unit == new.unit) refl
  where
    go : has_unit_state (with_unit units new) dev ≡ has_unit_state units dev
        → (x : Bool) → (u.target == new.target && u.unit == new.unit) ≡ x
        → has_unit_state (if x then new ∷ units else u ∷ with_unit units new) dev ≡ has_unit_state (u ∷ units) dev
    go h true z =
        let one : u.target ≡ new.target = eqb-true u.target new.target
        (and_first (u.target == new.target) (u.unit == new.unit) z) in
        λ i. sym one i == dev || has_unit_state units dev
    go h false z = λ i. u.target == dev || h i

reply_targets : (units : List UnitState) (id : ProcId) (reply : Reply) (dev : ℕ)
    → has_unit_state (units_with_reply units id reply) dev ≡ has_unit_state units dev
reply_targets [] id reply dev = refl
reply_targets (u ∷ units) id reply dev = ap (λ (b : Bool). u.target == dev || b) (reply_targets units id reply dev)

without_targets : (units : List UnitState) (id : ProcId) (dev : ℕ)
    → has_unit_state (units_without units id) dev ≡ has_unit_state units dev
without_targets [] id dev = refl
without_targets (u ∷ units) id dev = ap (λ (b : Bool). u.target == dev || b) (without_targets units id dev)

kept_targets : (drops : Process → Bool) (units : List UnitState) (dev : ℕ)
    → has_unit_state (kept_units drops units) dev ≡ has_unit_state units dev
kept_targets drops [] dev = refl
kept_targets drops (u ∷ units) dev = ap (λ (b : Bool). u.target == dev || b) (kept_targets drops units dev)

choice_targets : (holds : List Nexus) (units : List UnitState) (dev : ℕ)
    → has_unit_state (units_after_choice holds units) dev ≡ has_unit_state units dev
choice_targets holds [] dev = refl
choice_targets holds (u ∷ units) dev = λ i. choice_target holds u i == dev || choice_targets holds units dev i

-- ---- the attentions leave the units

without_attention_units : (a : Array) (reported : Bool) (nexus : Nexus)
    → (without_attention a reported nexus).units ≡ a.units
without_attention_units a true nexus = refl
without_attention_units a false nexus = refl

contents_targets : (a : Array) (u : Option UnitState) (contents : Contents) (dev : ℕ)
    → has_unit_state (with_contents a u contents).units dev ≡ has_unit_state a.units dev
contents_targets a None contents dev = refl
contents_targets a (Some u) contents dev = with_unit_targets a.units (record u { contents = contents }) dev

-- ---- no step gives the device a unit

if_allowed : (x : Bool) (a : Array) (dev : ℕ) → has_unit_state a.units dev ≡ false
    → has_unit_state_if (if x then Some a else None) dev ≡ false
if_allowed true a dev h = h
if_allowed false a dev h = refl

unless_refused : (x : Bool) (a : Array) (dev : ℕ) → has_unit_state a.units dev ≡ false
    → has_unit_state_if (if x then None else Some a) dev ≡ false
unless_refused true a dev h = refl
unless_refused false a dev h = h

queue_targets : (a : Array) (p : Process) (u : UnitState) (dev : ℕ) → has_unit_state a.units dev ≡ false
    → has_unit_state_if (queue_step a p u) dev ≡ false
queue_targets a p u dev h = if_allowed (nat_lt (process_count u) u.depth) (record a {
  units = with_unit a.units (record u { waiting = u.waiting ++ p ∷ [] });
}) dev (with_unit_targets a.units (record u { waiting = u.waiting ++ p ∷ [] }) dev ∙ h)

accept_targets_at : (a : Array) (p : Process) (u : Option UnitState) (dev : ℕ) → has_unit_state a.units dev ≡ false
    → has_unit_state_if (accept_step_at a p u) dev ≡ false
accept_targets_at a p None dev h = h
accept_targets_at a p (Some u) dev h = go (is_request_sense (command_of p.cdb))
  where
    go : (x : Bool) → has_unit_state_if (if x then Some (with_guest a p None) else queue_step a p u) dev ≡ false
    go true = h
    go false = queue_targets a p u dev h

accept_targets : (a : Array) (p : Option Process) (dev : ℕ) → has_unit_state a.units dev ≡ false
    → has_unit_state_if (accept_step a p) dev ≡ false
accept_targets a None dev h = refl
accept_targets a (Some p) dev h = accept_targets_at a p (unit_state_at a.units p.target p.unit) dev h

refuse_targets_at : (a : Array) (p : Process) (u : Option UnitState) (dev : ℕ) → has_unit_state a.units dev ≡ false
    → has_unit_state_if (refuse_step_at a p u) dev ≡ false
refuse_targets_at a p None dev h = refl
refuse_targets_at a p (Some u) dev h =
    if_allowed (not (is_request_sense (command_of p.cdb)) && process_count u == u.depth)
    (with_listed_reply (with_guest a p (Some queue_full)) p.id queue_full) dev h

refuse_targets : (a : Array) (p : Option Process) (dev : ℕ) → has_unit_state a.units dev ≡ false
    → has_unit_state_if (refuse_step a p) dev ≡ false
refuse_targets a None dev h = refl
refuse_targets a (Some p) dev h = refuse_targets_at a p (unit_state_at a.units p.target p.unit) dev h

execution_targets : (a : Array) (p : Process) (u : Option UnitState) (done : Execution) (dev : ℕ)
    → has_unit_state (after_execution a p u done).units dev ≡ has_unit_state a.units dev
execution_targets a p u done dev = reply_targets
    (with_contents (without_attention a done.reported (nexus_of p)) u done.contents).units p.id done.reply dev
    ∙ contents_targets (without_attention a done.reported (nexus_of p)) u done.contents dev
    ∙ ap (λ (units : List UnitState). has_unit_state units dev) (without_attention_units a done.reported (nexus_of p))

run_targets : (a : Array) (guest : Bool) (r : Option RunningProcess) (dev : ℕ) → has_unit_state a.units dev ≡ false
    → has_unit_state_if (run_step a guest r) dev ≡ false
run_targets a guest None dev h = refl
run_targets a guest (Some r) dev h =
    let p : Process = r.process in
    let u : Option UnitState = unit_state_at a.units p.target p.unit in
    if_allowed (is_none r.reply && (guest || not (is_held a.holds p.target p.unit))) (after_execution_at a p u) dev
    (execution_targets a p u (execution (context_at a (nexus_of p) u) p.cdb p.sent) dev ∙ h)

new_failure_targets : (a : Array) (id : ProcId) (reply : Reply) (p : Option Process) (dev : ℕ)
    → has_unit_state a.units dev ≡ false → has_unit_state_if (fail_step_of_new a id reply p) dev ≡ false
new_failure_targets a id reply None dev h = refl
new_failure_targets a id reply (Some p) dev h = unless_refused (is_waiting a.units id || has_ended a id)
    (with_listed_reply (with_guest a p (Some reply)) id reply) dev h

failure_targets : (s : ScenarioValue) (a : Array) (id : ProcId) (reply : Reply) (r : Option RunningProcess) (dev : ℕ)
    → has_unit_state a.units dev ≡ false → has_unit_state_if (fail_step s a id reply r) dev ≡ false
failure_targets s a id reply (Some r) dev h =
    if_allowed (is_none r.reply) (with_reply a id reply) dev (reply_targets a.units id reply dev ∙ h)
failure_targets s a id reply None dev h = new_failure_targets a id reply (process_of s id) dev h

end_targets_with : (a : Array) (p : Process) (status : ℕ) (reply : Option Reply) (dev : ℕ)
    → has_unit_state a.units dev ≡ false → has_unit_state_if (end_step_with a p status reply) dev ≡ false
end_targets_with a p status None dev h = refl
end_targets_with a p status (Some reply) dev h =
    if_allowed (reply.status == status) (array_without (after_status a p reply) p.id) dev
    (without_targets (after_status a p reply).units p.id dev
    ∙ ap (λ (units : List UnitState). has_unit_state units dev) (status_units a p reply)
    ∙ h)

end_targets : (a : Array) (status : ℕ) (r : Option RunningProcess) (dev : ℕ) → has_unit_state a.units dev ≡ false
    → has_unit_state_if (end_step a status r) dev ≡ false
end_targets a status None dev h = refl
end_targets a status (Some r) dev h = end_targets_with a r.process status r.reply dev h

loss_targets : (a : Array) (id : ProcId) (dev : ℕ) → has_unit_state a.units dev ≡ false
    → has_unit_state_if (loss_step a id) dev ≡ false
loss_targets a id dev h = unless_refused (has_ended a id) (array_without a id) dev (without_targets a.units id dev ∙ h)

dropped_targets : (a b : Array) (drops : Process → Bool) (dev : ℕ) → b.units ≡ kept_units drops a.units
    → has_unit_state a.units dev ≡ false → has_unit_state b.units dev ≡ false
dropped_targets a b drops dev e h =
    ap (λ (units : List UnitState). has_unit_state units dev) e ∙ kept_targets drops a.units dev ∙ h

abort_targets : (s : ScenarioValue) (a : Array) (initiator target unit : ℕ) (what : AbortKind) (dev : ℕ)
    → has_unit_state a.units dev ≡ false → has_unit_state (abort_step s a initiator target unit what).units dev ≡ false
abort_targets s a initiator target unit aborts.All dev h =
    kept_targets (λ p. p.initiator == initiator && is_of_unit p target unit) a.units dev ∙ h
abort_targets s a initiator target unit (aborts.Tag n) dev h =
    kept_targets (λ p. p.initiator == initiator && is_of_unit p target unit && has_tag p.tag n) a.units dev ∙ h
abort_targets s a initiator target unit aborts.WholeQueue dev h = dropped_targets a
    (abort_step s a initiator target unit aborts.WholeQueue) (λ p. is_of_unit p target unit) dev
    (cleared_units initiator (unit_processes (unit_state_at a.units target unit))
    (without_dropped a (λ p. is_of_unit p target unit))) h
abort_targets s a initiator target unit aborts.Device dev h = dropped_targets a
    (abort_step s a initiator target unit aborts.Device) (λ p. p.target == target) dev
    (unit_reset_units s.hosts a.units (λ u. u.target == target) (record (without_dropped a (λ p. p.target == target)) {
      senses = kept_senses (λ q. q.target == target) a.senses;
      holds = kept_nexuses (λ q. q.target == target) a.holds;
    })) h

reset_targets : (s : ScenarioValue) (a : Array) (dev : ℕ) → has_unit_state a.units dev ≡ false
    → has_unit_state (reset_step s a).units dev ≡ false
reset_targets s a dev h = dropped_targets a (reset_step s a) (λ p. true) dev (unit_reset_units s.hosts a.units
    (λ u. true) (record (without_dropped a (λ p. true)) { senses = []; holds = [] })) h

event_targets : (s : ScenarioValue) (a : Array) (event : Event) (dev : ℕ) → has_unit_state a.units dev ≡ false
    → has_unit_state_if (event_step s a event) dev ≡ false
event_targets s a (events.Accept id) dev h = accept_targets a (process_of s id) dev h
event_targets s a (events.Refuse id) dev h = refuse_targets a (process_of s id) dev h
event_targets s a (events.Run id) dev h = run_targets a (is_some (guest_at a.guests id)) (running_process a id) dev h
event_targets s a (events.Fail id code) dev h =
    failure_targets s a id (check_condition (sense_of ABORTED_COMMAND code 0x00)) (running_process a id) dev h
event_targets s a (events.End id status) dev h = end_targets a status (running_process a id) dev h
event_targets s a (events.Lost id) dev h = loss_targets a id dev h
event_targets s a (events.Aborted initiator target unit what) dev h = abort_targets s a initiator target unit what dev h
event_targets s a (events.Reset by) dev h = reset_targets s a dev h

settled_targets : (a : Option Array) (dev : ℕ) → has_unit_state_if a dev ≡ false
    → has_unit_state_if (settled_array_if a) dev ≡ false
settled_targets None dev h = refl
settled_targets (Some a) dev h = choice_targets a.holds a.units dev ∙ h

step_targets : (s : ScenarioValue) (event : Event) (a : Option Array) (dev : ℕ) → has_unit_state_if a dev ≡ false
    → has_unit_state_if (array_step s event a) dev ≡ false
step_targets s event None dev h = refl
step_targets s event (Some a) dev h = settled_targets (event_step s a event) dev (event_targets s a event dev h)

-- ---- all rows

history_targets : (s : ScenarioValue) (a : Option Array) (shown : List Event) (dev : ℕ)
    → has_unit_state_if a dev ≡ false → has_unit_state_if (array_after_events s a shown) dev ≡ false
history_targets s a [] dev h = h
history_targets s a (event ∷ shown) dev h =
    step_targets s event (array_after_events s a shown) dev (history_targets s a shown dev h)

run_targets_are : (s : ScenarioValue) (rows : List Row) (dev : ℕ) → HasNoUnit s dev
    → has_unit_state_if (run_state s rows).array dev ≡ false
run_targets_are s [] dev h =
    choice_targets [] (starting_units s (units_of s)) dev ∙ starting_targets s (units_of s) dev ∙ h
run_targets_are s (row ∷ rows) dev h =
    let k : RunState = run_state s rows in
    history_targets s k.array (row_events_by s k.story (row_reading k.story.bus_state row) row) dev
    (run_targets_are s rows dev h)

array_targets : (s : ScenarioValue) (a : Option Array) (dev : ℕ) → HasNoUnit s dev → has_unit_state_if a dev ≡ false
    → has_unit_state (or_start s a).units dev ≡ false
array_targets s None dev n h = starting_targets s (units_of s) dev ∙ n
array_targets s (Some a) dev n h = h

-- ---- so no process is ready there

none_ready : (a : Array) (times : List ℕ) (seek dev : ℕ) → ((n : ℕ) → unit_state_at a.units dev n ≡ None)
    → ready_among a times seek dev ≡ None
none_ready a times seek dev h = λ i. ready_by (at (h 0 i) 0 ∷ at (h 1 i) 1 ∷ at (h 2 i) 2 ∷ at (h 3 i) 3 ∷ at (h 4 i) 4
    ∷ at (h 5 i) 5 ∷ at (h 6 i) 6 ∷ at (h 7 i) 7 ∷ [])
  where
    at : Option UnitState → ℕ → Option Ready
    at u n = ready_in (is_held a.holds dev n) (current_of u) (since_of a.units times dev n + seek)

pub no_process_ready : (s : ScenarioValue) (rows : List Row) (dev : ℕ) → HasNoUnit s dev
    → ready_of s (run_state s rows) dev ≡ None
no_process_ready s rows dev h =
    let k : RunState = run_state s rows in
    none_ready (array_of s k) k.current_since (seek_of s.targets dev) dev
    (λ n. found_no_unit (array_of s k).units dev n (array_targets s k.array dev h (run_targets_are s rows dev h)))

pub is_no_target : (s : ScenarioValue) (rows : List Row) (dev : ℕ) → HasNoUnit s dev
    → ((n : Connection) → connection rows ≡ Some n → (n.target == dev) ≡ false) → IsNoTarget s rows dev
is_no_target s rows dev h k = record { no_process = no_process_ready s rows dev h; not_called = k }
