-- To each initiator that stands in a hold its automatic REQUEST SENSE is owed, event by event: a command that ends with
-- CHECK CONDITION puts its initiator there, and the REQUEST SENSE that ends GOOD takes it away (7.6).
use Rattle.progress_laws.proofs
use proofs.Names.{ℕ, ◌≡◌, Bool, true, false, not, ◌&&◌, ◌||◌, ◌∙◌, List, [], ◌∷◌, ◌++◌, Option, Some, None, refl, sym}
use proofs.Names.{ap, subst, inl, inr, eqb-true, or_from, cases_Bool, same_Some, list_any, if◌then◌else◌, ◌==◌, is_none}
use proofs.Names.{is_some, nat_lt, ⊤, wrong, eq_self, and_false, Event, ProcId, command_of, ABORTED_COMMAND, GOOD}
use proofs.Names.{CHECK_CONDITION, ScenarioValue, CmdDef, Reply, check_condition, is_request_sense, sense_of, Process}
use proofs.Names.{command_at, process_by, process_if, process_of, same_bool, IsSound, running_if, Array, Nexus}
use proofs.Names.{RunningProcess, UnitState, guest_at, is_held, nexus_of, nexuses_without, same_nexus, senses_without}
use proofs.Names.{unit_state_at, Item, Sent, has_item, process, same_item, sense_item, Story, by_status}
use proofs.Names.{story_after_event, story_with_end, running_own as own_process, executed, running_id, later, AreOwed}
use proofs.{Names.{IsOwed}, Owed.Steps.{aborts_owe, owed_all, owed_without, reset_owes}}
use Rattle.due_model.specs.array_model.specs.Steps

-- An automatic REQUEST SENSE that ends does so with GOOD, and none is lost; and that of a command is not over as the
-- command ends.
abbrev pub EndsWell : Story → Event → Type 0
EndsWell b (Event.End id status) = (id.sense ≡ true → (status == GOOD) ≡ true)
    × (id.sense ≡ false → has_item b.sent.over (sense_item id.command) ≡ false)
EndsWell b (Event.Lost id) = id.sense ≡ false
EndsWell b _ = ⊤

-- Of those that stand in holds, where the step is allowed.
abbrev pub IfHolds : (List Nexus → Type 0) → Option Array → Type 0
IfHolds f None = ⊤
IfHolds f (Some a) = f a.holds

abbrev pub IfOwed : ScenarioValue → Sent → Option Array → Type 0
IfOwed s c o = IfHolds (λ holds. AreOwed s c holds) o

if_some : (f : List Nexus → Type 0) (q : Bool) (a : Array) → f a.holds → IfHolds f (if q then Some a else None)
if_some f true a h = h
if_some f false a h = tt

pub if_none : (f : List Nexus → Type 0) (q : Bool) (a : Array) → f a.holds → IfHolds f (if q then None else Some a)
if_none f true a h = tt
if_none f false a h = h

-- ---- events that change no hold

pub accepted : (f : List Nexus → Type 0) (a : Array) (o : Option Process) → f a.holds
    → IfHolds f (Steps.accept_step a o)
accepted f a None h = tt
accepted f a (Some c) h = at (unit_state_at a.units c.target c.unit)
  where
    at : (u : Option UnitState) → IfHolds f (Steps.accept_step_at a c u)
    at None = h
    at (Some u) =
        elim (cases_Bool (is_request_sense (command_of c.cdb))) [
          | inl e ↦ rw e h
          | inr e ↦ rw e (if_some f (nat_lt (Steps.process_count u) u.depth) _ h)
        ]

pub refused : (f : List Nexus → Type 0) (a : Array) (o : Option Process) → f a.holds → IfHolds f (Steps.refuse_step a o)
refused f a None h = tt
refused f a (Some c) h = at (unit_state_at a.units c.target c.unit)
  where
    at : (u : Option UnitState) → IfHolds f (Steps.refuse_step_at a c u)
    at None = tt
    at (Some u) = if_some f (not (is_request_sense (command_of c.cdb)) && Steps.process_count u == u.depth) _ h

pub run : (f : List Nexus → Type 0) (a : Array) (guest : Bool) (o : Option RunningProcess) → f a.holds
    → IfHolds f (Steps.run_step a guest o)
run f a guest None h = tt
run f a guest (Some r) h =
    let u = unit_state_at a.units r.process.target r.process.unit in
    if_some f (is_none r.reply && (guest || not (is_held a.holds r.process.target r.process.unit))) _
    (subst f (sym (executed a r.process u).holds) h)

pub failed :
    (f : List Nexus → Type 0) (s : ScenarioValue) (a : Array) (i : ProcId) (reply : Reply) (o : Option RunningProcess)
    → f a.holds → IfHolds f (Steps.fail_step s a i reply o)
failed f s a i reply (Some r) h = if_some f (is_none r.reply) _ h
failed f s a i reply None h = new (process_of s i)
  where
    new : (c : Option Process) → IfHolds f (Steps.fail_step_of_new a i reply c)
    new None = tt
    new (Some c) = if_none f (Steps.is_waiting a.units i || Steps.has_ended a i) _ h

-- ---- a process that is over

pub other_over : (id : ProcId) (m : ℕ) → id.sense ≡ false → same_item (process id) (sense_item m) ≡ false
other_over id m e = ap (λ (q : Bool). (id.command == m) && same_bool q true) e ∙ and_false (id.command == m)

own_last : (m : ℕ) (checks : List ℕ) → list_any (λ k. k == m) (checks ++ m ∷ []) ≡ true
own_last m [] = ap (λ (q : Bool). q || false) (eq_self m)
own_last m (c ∷ checks) = elim (cases_Bool (c == m)) [ inl e ↦ rw e | inr e ↦ rw e (own_last m checks) ]

-- What is owed for another stays so.
owed_on : (s : ScenarioValue) (b c : Sent) (id : ProcId) (q : Nexus) (w : IsOwed s b q) → c.over ≡ process id ∷ b.over
    → ((m : ℕ) → list_any (λ k. k == m) b.checks ≡ true → list_any (λ k. k == m) c.checks ≡ true)
    → same_item (process id) (sense_item w.number) ≡ false → IsOwed s c q
owed_on s b c id q w over more apart = record {
  number = w.number;
  def = w.def;
  def_is = w.def_is;
  host_is = w.host_is;
  target_is = w.target_is;
  unit_is = w.unit_is;
  checked = more w.number w.checked;
  opens = ap (λ (x : List Item). has_item x (sense_item w.number)) over
      ∙ or_from (same_item (process id) (sense_item w.number)) (has_item b.over (sense_item w.number)) apart w.opens;
}

lost : (s : ScenarioValue) (b : Story) (a : Array) (id : ProcId) → id.sense ≡ false → AreOwed s b.sent a.holds
    → IfOwed s (story_after_event s b (Event.Lost id)).sent (Steps.loss_step a id)
lost s b a id e h = if_none (λ holds. AreOwed s (story_after_event s b (Event.Lost id)).sent holds)
    (Steps.has_ended a id) _ (owed_all s b.sent (story_after_event s b (Event.Lost id)).sent a.holds (λ q w. owed_on s
    b.sent (story_after_event s b (Event.Lost id)).sent id q w refl (λ n z. z) (other_over id w.number e)) h)

-- ---- the process that runs is of the scenario

pub running_own : (s : ScenarioValue) (a : Array) (i : ProcId) (r : RunningProcess) → IsSound s a
    → Steps.running_process a i ≡ Some r → process_of s i ≡ Some r.process
running_own s a i r sound e = ap (process_of s) (sym (running_id a i r e)) ∙ own_process s a i r sound e

-- Its command, and its nexus.
pub record OfCommand (s : ScenarioValue) (id : ProcId) (c : Process) : Type 0 where
  pub def : CmdDef
  pub def_is : command_at s.commands id.command ≡ Some def
  pub host_is : def.host ≡ c.initiator
  pub target_is : def.target ≡ c.target
  pub unit_is : def.unit ≡ c.unit
  pub fetches : id.sense ≡ true → is_request_sense (command_of c.cdb) ≡ true

pub of_command : (s : ScenarioValue) (id : ProcId) (t : Process) → process_of s id ≡ Some t → OfCommand s id t
of_command s id t e = go (command_at s.commands id.command) refl
  where
    no_process : {A : Type 0} → (let o : Option Process = None in o) ≡ Some t → A
    no_process z = absurd cc

    hosts : (q : Bool) (m : ℕ) (c : CmdDef) → c.host ≡ (process_by s (record { command = m; sense = q }) c).initiator
    hosts true m c = refl
    hosts false m c = refl

    targets : (q : Bool) (m : ℕ) (c : CmdDef) → c.target ≡ (process_by s (record { command = m; sense = q }) c).target
    targets true m c = refl
    targets false m c = refl

    units : (q : Bool) (m : ℕ) (c : CmdDef) → c.unit ≡ (process_by s (record { command = m; sense = q }) c).unit
    units true m c = refl
    units false m c = refl

    senses : (q : Bool) (m : ℕ) (c : CmdDef) → q ≡ true
        → is_request_sense (command_of (process_by s (record { command = m; sense = q }) c).cdb) ≡ true
    senses true m c z = refl
    senses false m c z = wrong (sym z)

    go : (o : Option CmdDef) → command_at s.commands id.command ≡ o → OfCommand s id t
    go None z = no_process (sym (ap (process_if s id) z) ∙ e)
    go (Some c) z =
        let same : process_by s id c ≡ t = same_Some (process_by s id c) t (sym (ap (process_if s id) z) ∙ e) in
        record {
          def = c;
          def_is = z;
          host_is = hosts id.sense id.command c ∙ ap (λ (x : Process). x.initiator) same;
          target_is = targets id.sense id.command c ∙ ap (λ (x : Process). x.target) same;
          unit_is = units id.sense id.command c ∙ ap (λ (x : Process). x.unit) same;
          fetches = λ f. ap (λ (x : Process). is_request_sense (command_of x.cdb)) (sym same)
              ∙ senses id.sense id.command c f;
        }

-- ---- a process ends

pub no_check : {A : Type 0} (status : ℕ) → (status == GOOD) ≡ true → (status == CHECK_CONDITION) ≡ true → A
no_check status e f = wrong (sym (sym (ap (λ (m : ℕ). m == GOOD) (eqb-true status CHECK_CONDITION f)) ∙ e))

-- The process that ends is of the scenario, and its reply has this status.
pub ended_so : (s : ScenarioValue) (f : List Nexus → Type 0) (a : Array) (id : ProcId) (status : ℕ) → IsSound s a
    → ((c : Process) (reply : Reply) → OfCommand s id c → (reply.status == status) ≡ true
    → f (Steps.after_status a c reply).holds) → IfHolds f (Steps.end_step a status (Steps.running_process a id))
ended_so s f a id status sound h = go (Steps.running_process a id) refl
  where
    reply_by : (r : RunningProcess) → OfCommand s id r.process
        → (o : Option Reply) → IfHolds f (Steps.end_step_with a r.process status o)
    reply_by r of None = tt
    reply_by r of (Some reply) =
        elim (cases_Bool (reply.status == status)) [ inl e ↦ rw e (h r.process reply of e) | inr e ↦ rw e tt ]

    go : (o : Option RunningProcess) → Steps.running_process a id ≡ o → IfHolds f (Steps.end_step a status o)
    go None z = tt
    go (Some r) z = reply_by r (of_command s id r.process (running_own s a id r sound z)) r.reply

ended : (s : ScenarioValue) (b : Story) (a : Array) (id : ProcId) (status : ℕ)
    → IsSound s a → EndsWell b (Event.End id status) → AreOwed s b.sent a.holds
    → IfOwed s (story_after_event s b (Event.End id status)).sent (Steps.end_step a status (Steps.running_process a id))
ended s b a id status sound well h = ended_so s (λ holds. AreOwed s c holds) a id status sound after
  where
    c : Sent
    c = (story_after_event s b (Event.End id status)).sent

    ends : Story
    ends = story_with_end b id (by_status status)

    over : c.over ≡ process id ∷ b.sent.over
    over = by (not id.sense && status == CHECK_CONDITION)
      where
        by : (q : Bool)
            → (if q then record ends { sent = record ends.sent { checks = ends.sent.checks ++ id.command ∷ [] } }
            else ends).sent.over ≡ process id ∷ b.sent.over
        by true = refl
        by false = refl

    more : (m : ℕ) → list_any (λ k. k == m) b.sent.checks ≡ true → list_any (λ k. k == m) c.checks ≡ true
    more m z = by (not id.sense && status == CHECK_CONDITION)
      where
        by : (q : Bool) → list_any (λ k. k == m)
            (if q then record ends { sent = record ends.sent { checks = ends.sent.checks ++ id.command ∷ [] } }
            else ends).sent.checks ≡ true
        by true = later m b.sent.checks (id.command ∷ []) z
        by false = z

    checked : id.sense ≡ false → (status == CHECK_CONDITION) ≡ true → list_any (λ k. k == id.command) c.checks ≡ true
    checked e f = (λ i. list_any (λ k. k == id.command) (if not (e i) && f i then record ends {
      sent = record ends.sent { checks = ends.sent.checks ++ id.command ∷ [] };
    } else ends).sent.checks) ∙ own_last id.command b.sent.checks

    others : id.sense ≡ false → (q : Nexus) → IsOwed s b.sent q → IsOwed s c q
    others e q w = owed_on s b.sent c id q w over more (other_over id w.number e)

    apart : (y : Process) → OfCommand s id y → (q : Nexus) → same_nexus q (nexus_of y) ≡ false → IsOwed s b.sent q
        → IsOwed s c q
    apart y of q ne w = owed_on s b.sent c id q w over more (by (id.command == w.number) refl)
      where
        by : (x : Bool) → (id.command == w.number) ≡ x → same_item (process id) (sense_item w.number) ≡ false
        by false z = ap (λ (x : Bool). x && same_bool id.sense true) z
        by true z =
            let same : w.def ≡ of.def = same_Some w.def of.def
            (sym w.def_is ∙ ap (command_at s.commands) (sym (eqb-true id.command w.number z)) ∙ of.def_is) in
            let host : q.initiator ≡ (nexus_of y).initiator = sym w.host_is
            ∙ ap (λ (x : CmdDef). x.host) same ∙ of.host_is in
            let target : q.target ≡ (nexus_of y).target = sym w.target_is
            ∙ ap (λ (x : CmdDef). x.target) same ∙ of.target_is in
            let unit : q.unit ≡ (nexus_of y).unit = sym w.unit_is ∙ ap (λ (x : CmdDef). x.unit) same ∙ of.unit_is in
            wrong (sym ((λ i. (host i == y.initiator) && ((target i == y.target) && (unit i == y.unit)))
            ∙ (λ i. eq_self y.initiator i && (eq_self y.target i && eq_self y.unit i))) ∙ ne)

    after : (y : Process) (reply : Reply) → OfCommand s id y → (reply.status == status) ≡ true
        → AreOwed s c (Steps.after_status a y reply).holds
    after y reply of z = by (reply.status == CHECK_CONDITION) refl
        (reply.status == GOOD && is_request_sense (command_of y.cdb)) refl id.sense refl
      where
        same : reply.status ≡ status
        same = eqb-true reply.status status z

        by : (q : Bool) → (reply.status == CHECK_CONDITION) ≡ q
            → (t : Bool) → (reply.status == GOOD && is_request_sense (command_of y.cdb)) ≡ t → (x : Bool) → id.sense ≡ x
            → AreOwed s c (if q then record a {
              senses = (nexus_of y, reply.sense) ∷ senses_without a.senses (nexus_of y);
              holds = nexus_of y ∷ nexuses_without a.holds (nexus_of y);
            } else if t then record a {
              senses = senses_without a.senses (nexus_of y);
              holds = nexuses_without a.holds (nexus_of y);
            } else a).holds
        by true f t g true e = no_check status (well.0 e) (ap (λ (m : ℕ). m == CHECK_CONDITION) (sym same) ∙ f)
        by true f t g false e = (
          record {
            number = id.command;
            def = of.def;
            def_is = of.def_is;
            host_is = of.host_is;
            target_is = of.target_is;
            unit_is = of.unit_is;
            checked = checked e (ap (λ (m : ℕ). m == CHECK_CONDITION) (sym same) ∙ f);
            opens = ap (λ (x : List Item). has_item x (sense_item id.command)) over
                ∙ or_from (same_item (process id) (sense_item id.command))
                (has_item b.sent.over (sense_item id.command)) (other_over id id.command e) (well.1 e);
          },
          owed_without s b.sent c a.holds (nexus_of y) (λ q ne w. apart y of q ne w) h,
        )
        by false f true g x e = owed_without s b.sent c a.holds (nexus_of y) (λ q ne w. apart y of q ne w) h
        by false f false g true e =
            wrong (sym (λ i. (ap (λ (m : ℕ). m == GOOD) same ∙ well.0 e) i && of.fetches e i) ∙ g)
        by false f false g false e = owed_all s b.sent c a.holds (λ q w. others e q w) h

-- ---- any event

event_owes : (s : ScenarioValue) (b : Story) (a : Array) (event : Event) → IsSound s a → EndsWell b event
    → AreOwed s b.sent a.holds → IfOwed s (story_after_event s b event).sent (Steps.event_step s a event)
event_owes s b a (Event.Accept id) sound well h = accepted (λ holds. AreOwed s b.sent holds) a (process_of s id) h
event_owes s b a (Event.Refuse id) sound well h = refused (λ holds. AreOwed s b.sent holds) a (process_of s id) h
event_owes s b a (Event.Run id) sound well h =
    run (λ holds. AreOwed s b.sent holds) a (is_some (guest_at a.guests id)) (Steps.running_process a id) h
event_owes s b a (Event.Fail id code) sound well h = failed (λ holds. AreOwed s b.sent holds) s a id
    (check_condition (sense_of ABORTED_COMMAND code 0x00)) (Steps.running_process a id) h
event_owes s b a (Event.End id status) sound well h = ended s b a id status sound well h
event_owes s b a (Event.Lost id) sound well h = lost s b a id well h
event_owes s b a (Event.Aborted i t n what) sound well h = aborts_owe s b a i t n what h
event_owes s b a (Event.Reset dev) sound well h = reset_owes s (story_after_event s b (Event.Reset dev)) a

-- The choices change no hold.
pub if_settled : (f : List Nexus → Type 0) (o : Option Array) → IfHolds f o → IfHolds f (Steps.settled_array_if o)
if_settled f None e = tt
if_settled f (Some x) e = e

pub step_owes : (s : ScenarioValue) (b : Story) (a : Array) (event : Event) → IsSound s a → EndsWell b event
    → AreOwed s b.sent a.holds → IfOwed s (story_after_event s b event).sent (Steps.step s event a)
step_owes s b a event sound well h = if_settled (λ holds. AreOwed s (story_after_event s b event).sent holds)
    (Steps.event_step s a event) (event_owes s b a event sound well h)
