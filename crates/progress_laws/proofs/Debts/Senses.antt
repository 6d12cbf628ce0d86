-- Event by event an automatic REQUEST SENSE is answered GOOD, where none fails (7.6, 8.2.14).
use Rattle.progress_laws.proofs
use proofs.Names.{ℕ, ◌≡◌, Bool, true, false, not, ◌&&◌, ◌||◌, ◌∙◌, List, ◌∷◌, Option, Some, None, refl, sym, ap, subst}
use proofs.Names.{inl, inr, cases_Bool, same_Some, if◌then◌else◌, ◌==◌, is_none, is_some, wrong, wrong', and_second}
use proofs.Names.{Event, ProcId, command_of, ABORTED_COMMAND, GOOD, ScenarioValue, CmdDef, abort_lists, fail_lists}
use proofs.Names.{loss_lists, reset_lists, took, end_lists, sense_fetched, reply_in, CommandContext, Reply}
use proofs.Names.{check_condition, execution, is_request_sense, queue_full, sense_of, Process, process_by, process_if}
use proofs.Names.{process_of, command_at, same_bool, same_id, sense_block, IsSound, Array, RunningProcess, UnitState}
use proofs.Names.{guest_at, is_held, nexus_of, unit_state_at, Sent, sense_id, none_some, executed, reply_at, accepted}
use proofs.{Names.{settles, running_id, AreFetched, PaysWell}, Owed.Events.{running_own}}
use Rattle.due_model.specs.array_model.proofs.SoundArrays.{id_is}
use Rattle.due_model.specs.array_model.specs.Steps

-- ---- what it answers

fetches_good : (m : CommandContext) (sent : List ℕ) → (execution m sense_block sent).reply.status ≡ GOOD
fetches_good m sent = λ i. (sense_fetched m sent i).reply.status

pub sense_cdb : (s : ScenarioValue) (id : ProcId) (t : Process) → id.sense ≡ true → process_of s id ≡ Some t
    → t.cdb ≡ sense_block
sense_cdb s id t e is = go (command_at s.commands id.command) is
  where
    no_process : (let o : Option Process = None in o) ≡ Some t → t.cdb ≡ sense_block
    no_process z = absurd cc

    blocks : (q : Bool) (m : ℕ) (c : CmdDef) → q ≡ true
        → (process_by s (record { command = m; sense = q }) c).cdb ≡ sense_block
    blocks true m c z = refl
    blocks false m c z = wrong' z

    go : (o : Option CmdDef) → process_if s id o ≡ Some t → t.cdb ≡ sense_block
    go None z = no_process z
    go (Some c) z =
        ap (λ (x : Process). x.cdb) (sym (same_Some (process_by s id c) t z)) ∙ blocks id.sense id.command c e

-- ---- one more reply

is_sense : (id : ProcId) (m : ℕ) → same_id id (sense_id m) ≡ true → id.sense ≡ true
is_sense id m e =
    elim (cases_Bool id.sense) [
      | inl f ↦ rw f
      | inr f ↦ rw f (wrong' (rw f at (and_second (id.command == m) (same_bool id.sense true) e)))
    ]

one_more : (replies after : List (ProcId × Reply)) (id : ProcId) (reply : Reply) → after ≡ (id, reply) ∷ replies
    → (id.sense ≡ true → reply.status ≡ GOOD) → AreFetched replies → AreFetched after
one_more replies after id reply is good h =
    subst (λ (x : List (ProcId × Reply)). AreFetched x) (sym is) (λ m r e. go m r (same_id id (sense_id m)) refl e)
  where
    go : (m : ℕ) (r : Reply) (x : Bool) → same_id id (sense_id m) ≡ x
        → (if x then Some reply else reply_in replies (sense_id m)) ≡ Some r → r.status ≡ GOOD
    go m r true z e = ap (λ (y : Reply). y.status) (sym (same_Some reply r e)) ∙ good (is_sense id m z)
    go m r false z e = h m r e

no_more : (replies after : List (ProcId × Reply)) → after ≡ replies → AreFetched replies → AreFetched after
no_more replies after is h = subst (λ (x : List (ProcId × Reply)). AreFetched x) (sym is) h

-- ---- any event

ran : (s : ScenarioValue) (a c : Array) (id : ProcId) (guest : Bool) (o : Option RunningProcess) → IsSound s a
    → Steps.running_process a id ≡ o → Steps.run_step a guest o ≡ Some c → AreFetched a.replies → AreFetched c.replies
ran s a c id guest None sound f e h = none_some c e
ran s a c id guest (Some r) sound f e h =
    go (is_none r.reply && (guest || not (is_held a.holds r.process.target r.process.unit))) e
  where
    u : Option UnitState
    u = unit_state_at a.units r.process.target r.process.unit

    own : r.process.id ≡ id
    own = running_id a id r f

    good : r.process.id.sense ≡ true → (reply_at a r.process u).status ≡ GOOD
    good z =
        let block : r.process.cdb ≡ sense_block = sense_cdb s id r.process
        (ap (λ (x : ProcId). x.sense) (sym own) ∙ z) (running_own s a id r sound f) in
        ap (λ (x : List ℕ). (execution (Steps.context_at a (nexus_of r.process) u) x r.process.sent).reply.status) block
        ∙ fetches_good (Steps.context_at a (nexus_of r.process) u) r.process.sent

    go : (x : Bool) → (if x then Some (Steps.after_execution_at a r.process u) else None) ≡ Some c
        → AreFetched c.replies
    go true z = one_more a.replies c.replies r.process.id (reply_at a r.process u)
        (took (Steps.after_execution_at a r.process u) c _ z (executed a r.process u).replies) good h
    go false z = none_some c z

-- A REQUEST SENSE is not refused.
refused : (s : ScenarioValue) (a c : Array) (id : ProcId) (o : Option Process) → process_of s id ≡ o
    → Steps.refuse_step a o ≡ Some c → AreFetched a.replies → AreFetched c.replies
refused s a c id None f e h = none_some c e
refused s a c id (Some t) f e h = at (unit_state_at a.units t.target t.unit) e
  where
    own : t.id ≡ id
    own = id_is s id t f

    kind : (q : Bool) → is_request_sense (command_of t.cdb) ≡ q → t.id.sense ≡ true → q ≡ true
    kind q z sense = sym z ∙ ap (λ (x : List ℕ). is_request_sense (command_of x))
        (sense_cdb s id t (ap (λ (x : ProcId). x.sense) (sym own) ∙ sense) f)

    go : (u : UnitState) (q : Bool) → is_request_sense (command_of t.cdb) ≡ q → (x : Bool)
        → (if not q && x then Some (Steps.with_listed_reply (Steps.with_guest a t (Some queue_full)) t.id queue_full)
        else None) ≡ Some c → AreFetched c.replies
    go u true z x y = none_some c y
    go u false z false y = none_some c y
    go u false z true y = one_more a.replies c.replies t.id queue_full
        (took (Steps.with_listed_reply (Steps.with_guest a t (Some queue_full)) t.id queue_full) c _ y refl)
        (λ sense. wrong' (kind false z sense)) h

    at : (u : Option UnitState) → Steps.refuse_step_at a t u ≡ Some c → AreFetched c.replies
    at None z = none_some c z
    at (Some u) z = go u (is_request_sense (command_of t.cdb)) refl (Steps.process_count u == u.depth) z

pub step_fetches : (s : ScenarioValue) (b : Sent) (a d : Array) (event : Event) → IsSound s a → PaysWell s b event
    → Steps.step s event a ≡ Some d → AreFetched a.replies → AreFetched d.replies
step_fetches s b a d (Event.Accept id) sound well e h = settles (Steps.accept_step a (process_of s id)) d
    (λ (x : Array). AreFetched x.replies) (λ c k. no_more a.replies c.replies (accepted a c (process_of s id) k) h) e
step_fetches s b a d (Event.Refuse id) sound well e h = settles (Steps.refuse_step a (process_of s id)) d
    (λ (x : Array). AreFetched x.replies) (λ c k. refused s a c id (process_of s id) refl k h) e
step_fetches s b a d (Event.Run id) sound well e h = settles (Steps.run_step a
    (is_some (guest_at a.guests id)) (Steps.running_process a id)) d (λ (x : Array). AreFetched x.replies)
    (λ c k. ran s a c id (is_some (guest_at a.guests id)) (Steps.running_process a id) sound refl k h) e
step_fetches s b a d (Event.Fail id code) sound well e h = settles
    (Steps.fail_step s a id (check_condition (sense_of ABORTED_COMMAND code 0x00)) (Steps.running_process a id)) d
    (λ (x : Array). AreFetched x.replies)
    (λ c k. one_more a.replies c.replies id (check_condition (sense_of ABORTED_COMMAND code 0x00))
    (fail_lists s a c id (check_condition (sense_of ABORTED_COMMAND code 0x00)) (Steps.running_process a id) k)
    (λ z. wrong (sym z ∙ well)) h) e
step_fetches s b a d (Event.End id status) sound well e h =
    settles (Steps.end_step a status (Steps.running_process a id)) d (λ (x : Array). AreFetched x.replies)
    (λ c k. no_more a.replies c.replies (end_lists a c status (Steps.running_process a id) k) h) e
step_fetches s b a d (Event.Lost id) sound well e h = settles (Steps.loss_step a id) d
    (λ (x : Array). AreFetched x.replies) (λ c k. no_more a.replies c.replies (loss_lists a c id k) h) e
step_fetches s b a d (Event.Aborted i t n what) sound well e h = settles (Some (Steps.abort_step s a i t n what)) d
    (λ (x : Array). AreFetched x.replies) (λ c k. no_more a.replies c.replies
    (took (Steps.abort_step s a i t n what) c a.replies k (abort_lists s a i t n what)) h) e
step_fetches s b a d (Event.Reset dev) sound well e h =
    settles (Some (Steps.reset_step s a)) d (λ (x : Array). AreFetched x.replies)
    (λ c k. no_more a.replies c.replies (took (Steps.reset_step s a) c a.replies k (reset_lists s a)) h) e
