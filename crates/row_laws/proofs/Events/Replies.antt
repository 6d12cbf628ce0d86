-- The plain disk array lists the reply of a process with the event that shows it, and keeps it.
use Rattle.row_laws.proofs
use proofs.Names.{◌≡◌, Bool, true, false, List, [], ◌∷◌, ◌∙◌, refl, sym, ap, subst, Option, Some, None, not, ◌&&◌, ◌||◌}
use proofs.Names.{if◌then◌else◌, is_some, is_none, Event, ProcId, ABORTED_COMMAND, ScenarioValue, fail_lists}
use proofs.Names.{executed_lists, refuse_lists, loss_lists, abort_lists, took, reset_lists, end_lists, accept_lists}
use proofs.Names.{guest_id, reply_in, Reply, Execution, execution, queue_full, check_condition, sense_of, Process}
use proofs.Names.{process_of, same_id, step, settled_array_if, running_if, running_process, RunningProcess, UnitState}
use proofs.Names.{Array, unit_state_at, guest_at, is_held, nexus_of, settled_array, process_id, id_is}
use Rattle.due_model.specs.array_model.specs.Steps

-- ---- what it lists after an event

pub record ListsOne (id : ProcId) (before after : List (ProcId × Reply)) : Type 0 where
  pub reply : Reply
  pub lists : after ≡ (id, reply) ∷ before

run_lists : (a c : Array) (guest : Bool) (r : RunningProcess) → Steps.run_step a guest (Some r) ≡ Some c
    → ListsOne r.process.id a.replies c.replies
run_lists a c guest r e = go (is_none r.reply && (guest || not (is_held a.holds r.process.target r.process.unit))) e
  where
    done : Execution
    done = execution (Steps.context_at a (nexus_of r.process) (unit_state_at a.units r.process.target r.process.unit))
        r.process.cdb r.process.sent

    next : Array
    next = Steps.after_execution a r.process (unit_state_at a.units r.process.target r.process.unit) done

    go : (y : Bool) → (if y then Some next else None) ≡ Some c → ListsOne r.process.id a.replies c.replies
    go false h = cc
    go true h = record {
      reply = done.reply;
      lists = took next c ((r.process.id, done.reply) ∷ a.replies) h
          (executed_lists a r.process (unit_state_at a.units r.process.target r.process.unit) done);
    }

-- ---- the process that runs is of its number

pub current_id : (units : List UnitState) (id : ProcId) (r : RunningProcess) → Steps.running_in units id ≡ Some r
    → r.process.id ≡ id
current_id [] id r e = cc
current_id (u ∷ units) id r e = go (λ h. current_id units id r h) u.current e
  where
    inner : (Steps.running_in units id ≡ Some r → r.process.id ≡ id)
        → (q : RunningProcess) → (x : Bool) → same_id q.process.id id ≡ x
        → (if is_some (if x then Some q else None) then (if x then Some q else None) else Steps.running_in units id)
        ≡ Some r → r.process.id ≡ id
    inner later q true z h =
        let same : q ≡ r = cc in
        ap (λ (y : RunningProcess). y.process.id) (sym same) ∙ id_is q.process.id id z
    inner later q false z h = later h

    go : (Steps.running_in units id ≡ Some r → r.process.id ≡ id) → (x : Option RunningProcess)
        → (if is_some (running_if x id) then running_if x id else Steps.running_in units id) ≡ Some r
        → r.process.id ≡ id
    go later None h = later h
    go later (Some q) h = inner later q (same_id q.process.id id) refl h

pub running_id : (a : Array) (id : ProcId) (r : RunningProcess) → running_process a id ≡ Some r → r.process.id ≡ id
running_id a id r e = go (guest_at a.guests id) refl e
  where
    go : (x : Option RunningProcess) → guest_at a.guests id ≡ x
        → (if is_some x then x else Steps.running_in a.units id) ≡ Some r → r.process.id ≡ id
    go None z h = current_id a.units id r h
    go (Some g) z h = guest_id a.guests id r (z ∙ h)

-- ---- which process has a reply after it

-- With these events a reply is shown.
abbrev pub replies_to : Event → ProcId → Bool
replies_to (Event.Refuse p) id = same_id p id
replies_to (Event.Run p) id = same_id p id
replies_to (Event.Fail p code) id = same_id p id
replies_to _ id = false

abbrev Lists : Event → Array → Array → Type 0
Lists e a b = (id : ProcId) → is_some (reply_in b.replies id) ≡ (replies_to e id || is_some (reply_in a.replies id))

same_list : (a b : Array) → b.replies ≡ a.replies
    → (id : ProcId) → is_some (reply_in b.replies id) ≡ is_some (reply_in a.replies id)
same_list a b e id = ap (λ (x : List (ProcId × Reply)). is_some (reply_in x id)) e

one_more : (a b : Array) (d : ProcId) (reply : Reply) → b.replies ≡ (d, reply) ∷ a.replies
    → (id : ProcId) → is_some (reply_in b.replies id) ≡ (same_id d id || is_some (reply_in a.replies id))
one_more a b d reply e id = ap (λ (x : List (ProcId × Reply)). is_some (reply_in x id)) e ∙ go (same_id d id)
  where
    go : (q : Bool) → is_some (if q then Some reply else reply_in a.replies id) ≡ (q || is_some (reply_in a.replies id))
    go true = refl
    go false = refl

-- The step of an event, before the choices that follow it.
pub settles : (x : Option Array) (b : Array) (q : Array → Type 0)
    → ((c : Array) → x ≡ Some c → q (settled_array c)) → settled_array_if x ≡ Some b → q b
settles None b q f e = cc
settles (Some c) b q f e = let same : settled_array c ≡ b = cc in subst q same (f c refl)

pub accepted : (a c : Array) (o : Option Process) → Steps.accept_step a o ≡ Some c → c.replies ≡ a.replies
accepted a c None e = cc
accepted a c (Some t) e = accept_lists a c t (unit_state_at a.units t.target t.unit) e

pub refused : (s : ScenarioValue) (a c : Array) (id : ProcId) (o : Option Process) → process_of s id ≡ o
    → Steps.refuse_step a o ≡ Some c → c.replies ≡ (id, queue_full) ∷ a.replies
refused s a c id None f e = cc
refused s a c id (Some t) f e = refuse_lists a c t (unit_state_at a.units t.target t.unit) e
    ∙ (λ i. (process_id s id t f i, queue_full) ∷ a.replies)

pub ran : (a c : Array) (guest : Bool) (id : ProcId) (o : Option RunningProcess) → running_process a id ≡ o
    → Steps.run_step a guest o ≡ Some c → ListsOne id a.replies c.replies
ran a c guest id None f e = cc
ran a c guest id (Some r) f e =
    subst (λ (x : ProcId). ListsOne x a.replies c.replies) (running_id a id r f) (run_lists a c guest r e)

pub listed_on : (s : ScenarioValue) (a b : Array) (e : Event) → step s e a ≡ Some b
    → (id : ProcId) → is_some (reply_in b.replies id) ≡ (replies_to e id || is_some (reply_in a.replies id))
listed_on s a b (Event.Accept p) st = settles (Steps.accept_step a (process_of s p)) b
    (λ (x : Array). Lists (Event.Accept p) a x) (λ c k. same_list a c (accepted a c (process_of s p) k)) st
listed_on s a b (Event.Refuse p) st = settles (Steps.refuse_step a (process_of s p)) b (λ (x : Array). Lists
    (Event.Refuse p) a x) (λ c k. one_more a c p queue_full (refused s a c p (process_of s p) refl k)) st
listed_on s a b (Event.Run p) st = settles (Steps.run_step a (is_some (guest_at a.guests p)) (running_process a p)) b
    (λ (x : Array). Lists (Event.Run p) a x)
    (λ c k. let w = ran a c (is_some (guest_at a.guests p)) p (running_process a p) refl k in
    one_more a c p w.reply w.lists) st
listed_on s a b (Event.Fail p code) st = settles
    (Steps.fail_step s a p (check_condition (sense_of ABORTED_COMMAND code 0x00)) (running_process a p)) b
    (λ (x : Array). Lists (Event.Fail p code) a x)
    (λ c k. one_more a c p (check_condition (sense_of ABORTED_COMMAND code 0x00))
    (fail_lists s a c p (check_condition (sense_of ABORTED_COMMAND code 0x00)) (running_process a p) k)) st
listed_on s a b (Event.End p status) st = settles (Steps.end_step a status (running_process a p)) b
    (λ (x : Array). Lists (Event.End p status) a x)
    (λ c k. same_list a c (end_lists a c status (running_process a p) k)) st
listed_on s a b (Event.Lost p) st = settles (Steps.loss_step a p) b (λ (x : Array). Lists (Event.Lost p) a x)
    (λ c k. same_list a c (loss_lists a c p k)) st
listed_on s a b (Event.Aborted i t n what) st = settles (Some (Steps.abort_step s a i t n what)) b
    (λ (x : Array). Lists (Event.Aborted i t n what) a x)
    (λ c k. same_list a c (took (Steps.abort_step s a i t n what) c a.replies k (abort_lists s a i t n what))) st
listed_on s a b (Event.Reset dev) st = settles (Some (Steps.reset_step s a)) b (λ (x : Array). Lists
    (Event.Reset dev) a x) (λ c k. same_list a c (took (Steps.reset_step s a) c a.replies k (reset_lists s a))) st
