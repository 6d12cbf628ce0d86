-- The units of the plain disk array stand in the order of their lines, whatever its history.
use Rattle.std.proofs.Common.{ℕ, ◌≡◌, Bool, true, false, List, [], ◌∷◌, ◌++◌, Option, Some, None, refl, sym, ap, ◌∙◌}
use Rattle.std.specs.Prelude.{◌==◌, ◌&&◌, ◌||◌, not, is_some, is_none, nat_lt, if◌then◌else◌}
use Rattle.std.proofs.lemmas.Bool.{and_parts, eqb-true}
use Rattle.delivery_laws.specs.scsi_device.proofs.Finds.{none_some, some_is}
use Rattle.bus_base.specs.declared.AbortKind.{AbortKind}
use Rattle.bus_base.specs.declared.AbortKind.TheVariants as aborts
use Rattle.bus_base.specs.declared.Event.{Event}
use Rattle.bus_base.specs.declared.Event.TheVariants as events
use Rattle.bus_base.specs.declared.ProcId.{ProcId}
use Rattle.cdb_codec.specs.Cdb.{command_of}
use Rattle.cdb_codec.specs.declared.status.TheConstants.{GOOD, CHECK_CONDITION}
use Rattle.cdb_codec.specs.declared.sense.TheConstants.{ABORTED_COMMAND}
use Rattle.scenario.specs.declared.value.UnitDef.{UnitDef}
use Rattle.scenario.specs.Lookups.{units_of}
use Rattle.scenario.specs.Value.{ScenarioValue}
use Rattle.array_model.specs.Contents.{Contents}
use Rattle.array_model.specs.Execution.{Reply, Execution, execution, is_request_sense, queue_full, check_condition}
use Rattle.array_model.specs.Execution.{sense_of}
use Rattle.array_model.specs.Order.{choice}
use Rattle.array_model.specs.Processes.{Process, process_of}
use Rattle.array_model.specs.Steps.{process_count, with_guest, with_listed_reply, queue_step, accept_step_at}
use Rattle.array_model.specs.Steps.{accept_step, refuse_step_at, refuse_step, context_at, with_contents}
use Rattle.array_model.specs.Steps.{without_attention, units_with_reply, with_reply, running_process, after_execution}
use Rattle.array_model.specs.Steps.{run_step, is_waiting, has_ended, fail_step_of_new, fail_step, units_without}
use Rattle.array_model.specs.Steps.{array_without, after_status, end_step_with, end_step, loss_step, kept_units}
use Rattle.array_model.specs.Steps.{without_dropped, is_of_unit, has_tag, unit_processes, kept_nexuses, kept_senses}
use Rattle.array_model.specs.Steps.{abort_step, reset_step, event_step, settled_array_if, step}
use Rattle.array_model.specs.Units.{RunningProcess, UnitState, Nexus, Array, senses_without, nexuses_without}
use Rattle.array_model.specs.Units.{unit_state_at, with_unit, guest_at, nexus_of, is_held, has_no_current, with_current}
use Rattle.array_model.specs.Units.{unit_after_choice, units_after_choice, settled_array, starting_units}
use Rattle.array_model.specs.Units.{starting_array}
use Rattle.array_model.specs.ArrayHistory.{array_step, array_after}
use Rattle.array_model.proofs.ArrayUnits.{cleared_units, unit_reset_units}

abbrev pub names : List UnitState → List (ℕ × ℕ)
names [] = []
names (u ∷ units) = (u.target, u.unit) ∷ names units

abbrev pub line_names : List UnitDef → List (ℕ × ℕ)
line_names [] = []
line_names (u ∷ units) = (u.target, u.unit) ∷ line_names units

-- ---- lists of units

with_names : (units : List UnitState) (new : UnitState) → names (with_unit units new) ≡ names units
with_names [] new = refl
with_names (u ∷ units) new = go (u.target == new.target && u.unit == new.unit) refl (with_names units new)
  where
    go : (q : Bool) → (u.target == new.target && u.unit == new.unit) ≡ q → names (with_unit units new) ≡ names units
        → names (if q then new ∷ units else u ∷ with_unit units new) ≡ (u.target, u.unit) ∷ names units
    go true z k =
        let parts = and_parts (u.target == new.target) (u.unit == new.unit) z in
        λ i. (sym (eqb-true u.target new.target parts.0) i, sym (eqb-true u.unit new.unit parts.1) i) ∷ names units
    go false z k = ap (λ (l : List (ℕ × ℕ)). (u.target, u.unit) ∷ l) k

reply_names : (units : List UnitState) (id : ProcId) (reply : Reply)
    → names (units_with_reply units id reply) ≡ names units
reply_names [] id reply = refl
reply_names (u ∷ units) id reply = ap (λ (l : List (ℕ × ℕ)). (u.target, u.unit) ∷ l) (reply_names units id reply)

without_names : (units : List UnitState) (id : ProcId) → names (units_without units id) ≡ names units
without_names [] id = refl
without_names (u ∷ units) id = ap (λ (l : List (ℕ × ℕ)). (u.target, u.unit) ∷ l) (without_names units id)

kept_names : (drops : Process → Bool) (units : List UnitState) → names (kept_units drops units) ≡ names units
kept_names drops [] = refl
kept_names drops (u ∷ units) = ap (λ (l : List (ℕ × ℕ)). (u.target, u.unit) ∷ l) (kept_names drops units)

abbrev name_of : UnitState → ℕ × ℕ
name_of u = (u.target, u.unit)

choice_name : (holds : List Nexus) (u : UnitState) → name_of (unit_after_choice holds u) ≡ name_of u
choice_name holds u = go (has_no_current u.current && not (is_held holds u.target u.unit)) (choice u.pick u.waiting)
  where
    go : (q : Bool) (p : Option Process) → name_of (if q then with_current u p else u) ≡ name_of u
    go true None = refl
    go true (Some p) = refl
    go false p = refl

choice_names : (holds : List Nexus) (units : List UnitState) → names (units_after_choice holds units) ≡ names units
choice_names holds [] = refl
choice_names holds (u ∷ units) = λ i. choice_name holds u i ∷ choice_names holds units i

-- ---- a step that may be refused leaves the names

keeps_some : (x a : Array) → names x.units ≡ names a.units → (b : Array) → Some x ≡ Some b
    → names b.units ≡ names a.units
keeps_some x a h b e = ap (λ (y : Array). names y.units) (sym (some_is x b e)) ∙ h

keeps_none : (a b : Array) → None ≡ Some b → names b.units ≡ names a.units
keeps_none a b e = absurd (none_some b e)

keeps_if : (a : Array) (q : Bool) (o p : Option Array) → ((b : Array) → o ≡ Some b → names b.units ≡ names a.units)
    → ((b : Array) → p ≡ Some b → names b.units ≡ names a.units) → (b : Array) → (if q then o else p) ≡ Some b
    → names b.units ≡ names a.units
keeps_if a true o p one two = one
keeps_if a false o p one two = two

accept_names : (a : Array) (o : Option Process) (b : Array) → accept_step a o ≡ Some b → names b.units ≡ names a.units
accept_names a None = keeps_none a
accept_names a (Some p) = at (unit_state_at a.units p.target p.unit)
  where
    at : (u : Option UnitState) (b : Array) → accept_step_at a p u ≡ Some b → names b.units ≡ names a.units
    at None = keeps_some (with_guest a p None) a refl
    at (Some u) =
        let longer : UnitState = record u { waiting = u.waiting ++ p ∷ [] } in
        keeps_if a (is_request_sense (command_of p.cdb)) (Some (with_guest a p None)) (queue_step a p u)
        (keeps_some (with_guest a p None) a refl)
        (keeps_if a (nat_lt (process_count u) u.depth) (Some (record a { units = with_unit a.units longer })) None
        (keeps_some (record a { units = with_unit a.units longer }) a (with_names a.units longer))
        (keeps_none a))

refuse_names : (a : Array) (o : Option Process) (b : Array) → refuse_step a o ≡ Some b → names b.units ≡ names a.units
refuse_names a None = keeps_none a
refuse_names a (Some p) = at (unit_state_at a.units p.target p.unit)
  where
    at : (u : Option UnitState) (b : Array) → refuse_step_at a p u ≡ Some b → names b.units ≡ names a.units
    at None = keeps_none a
    at (Some u) =
        let guest : Array = with_listed_reply (with_guest a p (Some queue_full)) p.id queue_full in
        keeps_if a (not (is_request_sense (command_of p.cdb)) && process_count u == u.depth) (Some guest) None
        (keeps_some guest a refl) (keeps_none a)

attention_names : (a : Array) (q : Bool) (n : Nexus) → names (without_attention a q n).units ≡ names a.units
attention_names a true n = refl
attention_names a false n = refl

contents_names : (a : Array) (u : Option UnitState) (contents : Contents)
    → names (with_contents a u contents).units ≡ names a.units
contents_names a None contents = refl
contents_names a (Some u) contents = with_names a.units (record u { contents = contents })

executed_names : (a : Array) (p : Process) (u : Option UnitState) (done : Execution)
    → names (after_execution a p u done).units ≡ names a.units
executed_names a p u done =
    reply_names (with_contents (without_attention a done.reported (nexus_of p)) u done.contents).units p.id done.reply
    ∙ contents_names (without_attention a done.reported (nexus_of p)) u done.contents
    ∙ attention_names a done.reported (nexus_of p)

run_names : (a : Array) (guest : Bool) (o : Option RunningProcess) (b : Array) → run_step a guest o ≡ Some b
    → names b.units ≡ names a.units
run_names a guest None = keeps_none a
run_names a guest (Some r) =
    let u : Option UnitState = unit_state_at a.units r.process.target r.process.unit in
    let done : Execution = execution (context_at a (nexus_of r.process) u) r.process.cdb r.process.sent in
    keeps_if a (is_none r.reply && (guest || not (is_held a.holds r.process.target r.process.unit)))
    (Some (after_execution a r.process u done)) None
    (keeps_some (after_execution a r.process u done) a (executed_names a r.process u done)) (keeps_none a)

fail_names : (s : ScenarioValue) (a : Array) (id : ProcId) (reply : Reply) (o : Option RunningProcess) (b : Array)
    → fail_step s a id reply o ≡ Some b → names b.units ≡ names a.units
fail_names s a id reply (Some r) = keeps_if a (is_none r.reply) (Some (with_reply a id reply)) None
    (keeps_some (with_reply a id reply) a (reply_names a.units id reply)) (keeps_none a)
fail_names s a id reply None = new (process_of s id)
  where
    new : (o : Option Process) (b : Array) → fail_step_of_new a id reply o ≡ Some b → names b.units ≡ names a.units
    new None = keeps_none a
    new (Some p) =
        let guest : Array = with_listed_reply (with_guest a p (Some reply)) id reply in
        keeps_if a (is_waiting a.units id || has_ended a id) None (Some guest) (keeps_none a) (keeps_some guest a refl)

status_names : (a : Array) (p : Process) (reply : Reply) → names (after_status a p reply).units ≡ names a.units
status_names a p reply =
    go (reply.status == CHECK_CONDITION) (reply.status == GOOD && is_request_sense (command_of p.cdb))
  where
    go : (x y : Bool) → (let c : Array = if x then record a {
      senses = (nexus_of p, reply.sense) ∷ senses_without a.senses (nexus_of p);
      holds = nexus_of p ∷ nexuses_without a.holds (nexus_of p);
    } else if y then record a {
      senses = senses_without a.senses (nexus_of p);
      holds = nexuses_without a.holds (nexus_of p);
    } else a in names c.units) ≡ names a.units
    go true y = refl
    go false true = refl
    go false false = refl

end_names : (a : Array) (status : ℕ) (o : Option RunningProcess) (b : Array) → end_step a status o ≡ Some b
    → names b.units ≡ names a.units
end_names a status None = keeps_none a
end_names a status (Some r) = with_reply_is r.reply
  where
    with_reply_is : (o : Option Reply) (b : Array) → end_step_with a r.process status o ≡ Some b
        → names b.units ≡ names a.units
    with_reply_is None = keeps_none a
    with_reply_is (Some reply) =
        let left : Array = array_without (after_status a r.process reply) r.process.id in
        keeps_if a (reply.status == status) (Some left) None (keeps_some left a
        (without_names (after_status a r.process reply).units r.process.id ∙ status_names a r.process reply))
        (keeps_none a)

loss_names : (a : Array) (id : ProcId) (b : Array) → loss_step a id ≡ Some b → names b.units ≡ names a.units
loss_names a id = keeps_if a (has_ended a id) None (Some (array_without a id)) (keeps_none a)
    (keeps_some (array_without a id) a (without_names a.units id))

-- ---- aborts and resets

abort_names : (s : ScenarioValue) (a : Array) (initiator target unit : ℕ) (what : AbortKind)
    → names (abort_step s a initiator target unit what).units ≡ names a.units
abort_names s a initiator target unit aborts.All =
    kept_names (λ p. p.initiator == initiator && is_of_unit p target unit) a.units
abort_names s a initiator target unit (aborts.Tag n) =
    kept_names (λ p. p.initiator == initiator && is_of_unit p target unit && has_tag p.tag n) a.units
abort_names s a initiator target unit aborts.WholeQueue =
    let left : Array = without_dropped a (λ p. is_of_unit p target unit) in
    ap names (cleared_units initiator (unit_processes (unit_state_at a.units target unit)) left)
    ∙ kept_names (λ p. is_of_unit p target unit) a.units
abort_names s a initiator target unit aborts.Device =
    let left : Array = record (without_dropped a (λ p. p.target == target)) {
      senses = kept_senses (λ q. q.target == target) a.senses;
      holds = kept_nexuses (λ q. q.target == target) a.holds;
    } in
    ap names (unit_reset_units s.hosts a.units (λ u. u.target == target) left)
    ∙ kept_names (λ p. p.target == target) a.units

reset_names : (s : ScenarioValue) (a : Array) → names (reset_step s a).units ≡ names a.units
reset_names s a =
    let left : Array = record (without_dropped a (λ p. true)) { senses = []; holds = [] } in
    ap names (unit_reset_units s.hosts a.units (λ u. true) left) ∙ kept_names (λ p. true) a.units

-- ---- any event, and any history

event_names : (s : ScenarioValue) (a : Array) (event : Event) (b : Array) → event_step s a event ≡ Some b
    → names b.units ≡ names a.units
event_names s a (events.Accept id) = accept_names a (process_of s id)
event_names s a (events.Refuse id) = refuse_names a (process_of s id)
event_names s a (events.Run id) = run_names a (is_some (guest_at a.guests id)) (running_process a id)
event_names s a (events.Fail id code) =
    fail_names s a id (check_condition (sense_of ABORTED_COMMAND code 0x00)) (running_process a id)
event_names s a (events.End id status) = end_names a status (running_process a id)
event_names s a (events.Lost id) = loss_names a id
event_names s a (events.Aborted initiator target unit what) =
    keeps_some (abort_step s a initiator target unit what) a (abort_names s a initiator target unit what)
event_names s a (events.Reset dev) = keeps_some (reset_step s a) a (reset_names s a)

step_names : (s : ScenarioValue) (event : Event) (a b : Array) → step s event a ≡ Some b → names b.units ≡ names a.units
step_names s event a b e = go (event_step s a event) (event_names s a event) e
  where
    go : (o : Option Array) → ((c : Array) → o ≡ Some c → names c.units ≡ names a.units) → settled_array_if o ≡ Some b
        → names b.units ≡ names a.units
    go None k e = absurd (none_some b e)
    go (Some c) k e = ap (λ (y : Array). names y.units) (sym (some_is (settled_array c) b e))
        ∙ choice_names c.holds c.units ∙ k c refl

starting_names : (s : ScenarioValue) (units : List UnitDef) → names (starting_units s units) ≡ line_names units
starting_names s [] = refl
starting_names s (u ∷ units) = ap (λ (l : List (ℕ × ℕ)). (u.target, u.unit) ∷ l) (starting_names s units)

pub history_names : (s : ScenarioValue) (history : List Event) (a : Array) → array_after s history ≡ Some a
    → names a.units ≡ line_names (units_of s)
history_names s [] a e = ap (λ (y : Array). names y.units) (sym (some_is (settled_array (starting_array s)) a e))
    ∙ choice_names (starting_array s).holds (starting_units s (units_of s)) ∙ starting_names s (units_of s)
history_names s (event ∷ history) a e = go (array_after s history) (history_names s history) e
  where
    go : (o : Option Array) → ((b : Array) → o ≡ Some b → names b.units ≡ line_names (units_of s))
        → array_step s event o ≡ Some a → names a.units ≡ line_names (units_of s)
    go None k e = absurd (none_some a e)
    go (Some b) k e = step_names s event b a e ∙ k b refl
