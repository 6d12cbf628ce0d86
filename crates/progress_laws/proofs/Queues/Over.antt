-- What has ended in the plain disk array is over, after any rows.
use Rattle.progress_laws.proofs
use proofs.Names.{ℕ, ◌≡◌, Bool, true, false, not, ◌&&◌, ◌||◌, ◌∙◌, List, [], ◌∷◌, Option, Some, None, refl, sym, ap}
use proofs.Names.{subst, inl, inr, cases_Bool, list_any, if◌then◌else◌, ◌==◌, is_none, is_some, nat_lt, ⊤, wrong}
use proofs.Names.{AbortKind, Event, ProcId, Row, command_of, ABORTED_COMMAND, GOOD, CHECK_CONDITION, ScenarioValue}
use proofs.Names.{HostDef, array_step, Execution, Reply, check_condition, execution, is_request_sense, sense_of}
use proofs.Names.{Process, process_of, same_id, has_ended, Array, RunningProcess, UnitState, guest_at, is_held}
use proofs.Names.{nexus_of, nexuses_without, senses_without, unit_state_at, RowReading, row_reading, row_events_by}
use proofs.Names.{Item, has_item, process, Story, story_after_event, story_after_events, story_by_change, RunState}
use proofs.Names.{array_after_events, run_state, id_is, running_id, ends_over, events_grow, lost_over, change_over}
use Rattle.due_model.specs.array_model.specs.Steps

-- ---- of a list of what has ended

abbrev pub AllOver : Story → List ProcId → Type 0
AllOver b [] = ⊤
AllOver b (id ∷ ids) = (has_item b.sent.over (process id) ≡ true) × AllOver b ids

over_all : (b c : Story) (ids : List ProcId)
    → ((i : Item) → has_item b.sent.over i ≡ true → has_item c.sent.over i ≡ true) → AllOver b ids → AllOver c ids
over_all b c [] f h = tt
over_all b c (id ∷ ids) f h = (f (process id) h.0, over_all b c ids f h.1)

abbrev pub IfOver : Story → Option Array → Type 0
IfOver b None = ⊤
IfOver b (Some a) = AllOver b a.ended

if_some : (b : Story) (q : Bool) (a : Array) → AllOver b a.ended → IfOver b (if q then Some a else None)
if_some b true a h = h
if_some b false a h = tt

if_none : (b : Story) (q : Bool) (a : Array) → AllOver b a.ended → IfOver b (if q then None else Some a)
if_none b true a h = tt
if_none b false a h = h

accepted : (b : Story) (a : Array) (o : Option Process) → AllOver b a.ended → IfOver b (Steps.accept_step a o)
accepted b a None h = tt
accepted b a (Some c) h = at (unit_state_at a.units c.target c.unit)
  where
    at : (u : Option UnitState) → IfOver b (Steps.accept_step_at a c u)
    at None = h
    at (Some u) =
        elim (cases_Bool (is_request_sense (command_of c.cdb))) [
          | inl e ↦ rw e h
          | inr e ↦ rw e (if_some b (nat_lt (Steps.process_count u) u.depth) _ h)
        ]

refused : (b : Story) (a : Array) (o : Option Process) → AllOver b a.ended → IfOver b (Steps.refuse_step a o)
refused b a None h = tt
refused b a (Some c) h = at (unit_state_at a.units c.target c.unit)
  where
    at : (u : Option UnitState) → IfOver b (Steps.refuse_step_at a c u)
    at None = tt
    at (Some u) = if_some b (not (is_request_sense (command_of c.cdb)) && Steps.process_count u == u.depth) _ h

executed : (a : Array) (c : Process) (u : Option UnitState) (done : Execution)
    → (Steps.after_execution a c u done).ended ≡ a.ended
executed a c u done = go done.reported u
  where
    go : (q : Bool) (o : Option UnitState)
        → (Steps.with_contents (Steps.without_attention a q (nexus_of c)) o done.contents).ended ≡ a.ended
    go true None = refl
    go true (Some v) = refl
    go false None = refl
    go false (Some v) = refl

run : (b : Story) (a : Array) (guest : Bool) (o : Option RunningProcess) → AllOver b a.ended
    → IfOver b (Steps.run_step a guest o)
run b a guest None h = tt
run b a guest (Some r) h =
    let u = unit_state_at a.units r.process.target r.process.unit in
    if_some b (is_none r.reply && (guest || not (is_held a.holds r.process.target r.process.unit))) _
    (subst (λ (x : List ProcId). AllOver b x)
    (sym (executed a r.process u (execution (Steps.context_at a (nexus_of r.process) u) r.process.cdb r.process.sent)))
    h)

failed : (s : ScenarioValue) (b : Story) (a : Array) (i : ProcId) (reply : Reply) (o : Option RunningProcess)
    → AllOver b a.ended → IfOver b (Steps.fail_step s a i reply o)
failed s b a i reply (Some r) h = if_some b (is_none r.reply) _ h
failed s b a i reply None h = new (process_of s i)
  where
    new : (c : Option Process) → IfOver b (Steps.fail_step_of_new a i reply c)
    new None = tt
    new (Some c) = if_none b (Steps.is_waiting a.units i || Steps.has_ended a i) _ h

pub ended : (b : Story) (a : Array) (i : ProcId) (status : ℕ) → has_item b.sent.over (process i) ≡ true
    → AllOver b a.ended → IfOver b (Steps.end_step a status (Steps.running_process a i))
ended b a i status over h = go (Steps.running_process a i) refl
  where
    same : (r : RunningProcess) (reply : Reply) (q t : Bool) → (if q then record a {
      senses = (nexus_of r.process, reply.sense) ∷ senses_without a.senses (nexus_of r.process);
      holds = nexus_of r.process ∷ nexuses_without a.holds (nexus_of r.process);
    } else if t then record a {
      senses = senses_without a.senses (nexus_of r.process);
      holds = nexuses_without a.holds (nexus_of r.process);
    } else a).ended ≡ a.ended
    same r reply true t = refl
    same r reply false true = refl
    same r reply false false = refl

    by : (r : RunningProcess) → r.process.id ≡ i
        → (o : Option Reply) → IfOver b (Steps.end_step_with a r.process status o)
    by r f None = tt
    by r f (Some reply) = if_some b (reply.status == status) _ (
      ap (λ (x : ProcId). has_item b.sent.over (process x)) f ∙ over,
      subst (λ (x : List ProcId). AllOver b x) (sym (same r reply (reply.status == CHECK_CONDITION)
          (reply.status == GOOD && is_request_sense (command_of r.process.cdb)))) h,
    )

    go : (o : Option RunningProcess) → Steps.running_process a i ≡ o → IfOver b (Steps.end_step a status o)
    go None z = tt
    go (Some r) z = by r (running_id a i r z) r.reply

-- ---- aborts and resets end none in the array

reset_same : (hosts : List HostDef) (t m : ℕ) (a : Array) → (Steps.reset_attentions hosts t m a).ended ≡ a.ended
reset_same [] t m a = refl
reset_same (h ∷ hosts) t m a =
    reset_same hosts t m (Steps.reset_attention a (record { initiator = h.dev; target = t; unit = m }))

all_reset_same : (hosts : List HostDef) (units : List UnitState) (is_one : UnitState → Bool) (a : Array)
    → (Steps.unit_reset_attentions hosts units is_one a).ended ≡ a.ended
all_reset_same hosts [] is_one a = refl
all_reset_same hosts (u ∷ units) is_one a =
    all_reset_same hosts units is_one (if is_one u then Steps.reset_attentions hosts u.target u.unit a else a)
    ∙ go (is_one u)
  where
    go : (q : Bool) → (if q then Steps.reset_attentions hosts u.target u.unit a else a).ended ≡ a.ended
    go true = reset_same hosts u.target u.unit a
    go false = refl

cleared_same : (i : ℕ) (lost : List Process) (a : Array) → (Steps.cleared_attentions i lost a).ended ≡ a.ended
cleared_same i [] a = refl
cleared_same i (c ∷ lost) a =
    cleared_same i lost (if c.initiator == i then a else Steps.cleared_attention a (nexus_of c)) ∙ go (c.initiator == i)
  where
    one : (q : Bool) (x : Array) → x.ended ≡ a.ended → (if q then a else x).ended ≡ a.ended
    one true x e = refl
    one false x e = e

    go : (q : Bool) → (if q then a else Steps.cleared_attention a (nexus_of c)).ended ≡ a.ended
    go true = refl
    go false = one _ _ refl

aborted_same : (s : ScenarioValue) (a : Array) (i t m : ℕ) (what : AbortKind)
    → (Steps.abort_step s a i t m what).ended ≡ a.ended
aborted_same s a i t m AbortKind.All = refl
aborted_same s a i t m (AbortKind.Tag tag) = refl
aborted_same s a i t m AbortKind.WholeQueue = cleared_same i (Steps.unit_processes (unit_state_at a.units t m))
    (Steps.without_dropped a (λ p. Steps.is_of_unit p t m))
aborted_same s a i t m AbortKind.Device =
    all_reset_same s.hosts a.units (λ u. u.target == t) (record (Steps.without_dropped a (λ p. p.target == t)) {
      senses = Steps.kept_senses (λ r. r.target == t) a.senses;
      holds = Steps.kept_nexuses (λ r. r.target == t) a.holds;
    })

event_over : (s : ScenarioValue) (b : Story) (a : Array) (event : Event) → AllOver b a.ended
    → IfOver (story_after_event s b event) (Steps.event_step s a event)
event_over s b a event h =
    by event (over_all b (story_after_event s b event) a.ended (events_grow s b (event ∷ [])).over h)
  where
    by : (e : Event) → AllOver (story_after_event s b e) a.ended
        → IfOver (story_after_event s b e) (Steps.event_step s a e)
    by (Event.Accept id) f = accepted (story_after_event s b (Event.Accept id)) a (process_of s id) f
    by (Event.Refuse id) f = refused (story_after_event s b (Event.Refuse id)) a (process_of s id) f
    by (Event.Run id) f =
        run (story_after_event s b (Event.Run id)) a (is_some (guest_at a.guests id)) (Steps.running_process a id) f
    by (Event.Fail id code) f = failed s (story_after_event s b (Event.Fail id code)) a id
        (check_condition (sense_of ABORTED_COMMAND code 0x00)) (Steps.running_process a id) f
    by (Event.End id status) f =
        ended (story_after_event s b (Event.End id status)) a id status (ends_over s b id status) f
    by (Event.Lost id) f =
        if_none (story_after_event s b (Event.Lost id)) (Steps.has_ended a id) _ (lost_over s b id, f)
    by (Event.Aborted i t n what) f = subst (λ (x : List ProcId). AllOver
        (story_after_event s b (Event.Aborted i t n what)) x) (sym (aborted_same s a i t n what)) f
    by (Event.Reset dev) f =
        subst (λ (x : List ProcId). AllOver (story_after_event s b (Event.Reset dev)) x) (sym (all_reset_same s.hosts
        a.units (λ u. true) (record (Steps.without_dropped a (λ p. true)) { senses = []; holds = [] }))) f

step_over : (s : ScenarioValue) (b : Story) (a : Array) (event : Event) → AllOver b a.ended
    → IfOver (story_after_event s b event) (Steps.step s event a)
step_over s b a event h = go (Steps.event_step s a event) (event_over s b a event h)
  where
    go : (o : Option Array) → IfOver (story_after_event s b event) o
        → IfOver (story_after_event s b event) (Steps.settled_array_if o)
    go None e = tt
    go (Some x) e = e

-- ---- over the events of a row, and over rows

events_over : (s : ScenarioValue) (b : Story) (o : Option Array) (shown : List Event) → IfOver b o
    → IfOver (story_after_events s b shown) (array_after_events s o shown)
events_over s b o [] h = h
events_over s b o (event ∷ shown) h = go (array_after_events s o shown) (events_over s b o shown h)
  where
    was : Story
    was = story_after_events s b shown

    go : (x : Option Array) → IfOver was x → IfOver (story_after_event s was event) (array_step s event x)
    go None e = tt
    go (Some a) e = step_over s was a event e

more_over : (b c : Story) (o : Option Array)
    → ((i : Item) → has_item b.sent.over i ≡ true → has_item c.sent.over i ≡ true) → IfOver b o → IfOver c o
more_over b c None f h = tt
more_over b c (Some a) f h = over_all b c a.ended f h

ended_over : (s : ScenarioValue) (p : List Row) → IfOver (run_state s p).story (run_state s p).array
ended_over s [] = tt
ended_over s (row ∷ p) =
    let k : RunState = run_state s p in
    let d : RowReading = row_reading k.story.bus_state row in
    let b : Story = story_by_change s k.story d row in
    events_over s b k.array (row_events_by s k.story d row)
    (more_over k.story b k.array (λ i. change_over s k.story d row i) (ended_over s p))

over_at : (b : Story) (ids : List ProcId) (id : ProcId) → AllOver b ids
    → list_any (λ (d : ProcId). same_id d id) ids ≡ true → has_item b.sent.over (process id) ≡ true
over_at b [] id h e = wrong (sym e)
over_at b (x ∷ ids) id h e = go (same_id x id) refl e (λ z. over_at b ids id h.1 z)
  where
    go : (q : Bool) → same_id x id ≡ q → (q || list_any (λ (d : ProcId). same_id d id) ids) ≡ true
        → (list_any (λ (d : ProcId). same_id d id) ids ≡ true → has_item b.sent.over (process id) ≡ true)
        → has_item b.sent.over (process id) ≡ true
    go true z f more = ap (λ (y : ProcId). has_item b.sent.over (process y)) (sym (id_is x id z)) ∙ h.0
    go false z f more = more f

-- What has ended in the array is over.
abbrev pub EndedOver : RunState → Array → Type 0
EndedOver k a = (id : ProcId) → has_ended a id ≡ true → has_item k.story.sent.over (process id) ≡ true

pub all_over : (s : ScenarioValue) (p : List Row) (a : Array) → (run_state s p).array ≡ Some a
    → EndedOver (run_state s p) a
all_over s p a e id h = over_at (run_state s p).story a.ended id
    (subst (λ (o : Option Array). IfOver (run_state s p).story o) e (ended_over s p)) h
