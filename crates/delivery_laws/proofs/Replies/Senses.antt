-- What the plain disk array lists of a process: its status is GOOD, CHECK CONDITION or QUEUE FULL, and an automatic
-- REQUEST SENSE that ends GOOD brings bytes (7.3, 8.2.14).
use Rattle.delivery_laws.proofs
use proofs.Names.{◌≡◌, Bool, true, false, not, ◌&&◌, ◌||◌, ◌∙◌, List, [], ◌∷◌, Option, Some, None, ℕ, refl, sym, ap}
use proofs.Names.{subst, inl, inr, ◌⊎◌, same_Some, if◌then◌else◌, ◌==◌, is_none, is_some, ⊤, wrong', Event, ProcId}
use proofs.Names.{ABORTED_COMMAND, CHECK_CONDITION, GOOD, QUEUE_FULL, ScenarioValue, Obeys, abort_lists, fail_lists}
use proofs.Names.{loss_lists, reset_lists, took, end_lists, sense_fetched, status_known, history_sound, array_after}
use proofs.Names.{array_step, reply_in, CommandContext, Reply, check_condition, execution, queue_full, sense_of}
use proofs.Names.{process_of, same_id, sense_block, IsSound, Array, RunningProcess, UnitState, guest_at, is_held}
use proofs.Names.{nexus_of, unit_state_at, obeys_fits, seats_are, id_is, none_some, executed, reply_at, accepted}
use proofs.Names.{refused, settles, running_id, sense_cdb, running_own}
use Rattle.due_model.specs.array_model.specs.Steps

abbrev pub is_known : ℕ → Bool
is_known status = status == GOOD || (status == CHECK_CONDITION || status == QUEUE_FULL)

abbrev pub is_filled : List ℕ → Bool
is_filled [] = false
is_filled (b ∷ bytes) = true

-- ---- what a command answers as it runs

pub execution_known : (m : CommandContext) (cdb sent : List ℕ) → is_known (execution m cdb sent).reply.status ≡ true
execution_known m cdb sent = by (status_known m cdb sent)
  where
    by : ((execution m cdb sent).reply.status ≡ GOOD) ⊎ ((execution m cdb sent).reply.status ≡ CHECK_CONDITION)
        → is_known (execution m cdb sent).reply.status ≡ true
    by (inl e) = λ i. is_known (e i)
    by (inr e) = λ i. is_known (e i)

sense_filled : (m : CommandContext) (sent : List ℕ) → is_filled (execution m sense_block sent).reply.bytes ≡ true
sense_filled m sent = λ i. is_filled (sense_fetched m sent i).reply.bytes

-- ---- of each process

pub record IsTold (id : ProcId) (reply : Reply) : Type 0 where
  pub known : is_known reply.status ≡ true
  pub filled : id.sense ≡ true → (reply.status == GOOD) ≡ true → is_filled reply.bytes ≡ true

abbrev pub AreTold : List (ProcId × Reply) → Type 0
AreTold replies = (id : ProcId) (reply : Reply) → reply_in replies id ≡ Some reply → IsTold id reply

no_more : (replies after : List (ProcId × Reply)) → after ≡ replies → AreTold replies → AreTold after
no_more replies after is g = subst (λ (x : List (ProcId × Reply)). AreTold x) (sym is) g

one_more : (replies after : List (ProcId × Reply)) (id : ProcId) (reply : Reply) → after ≡ (id, reply) ∷ replies
    → ((x : ProcId) → same_id id x ≡ true → IsTold x reply) → AreTold replies → AreTold after
one_more replies after id reply is own g =
    subst (λ (x : List (ProcId × Reply)). AreTold x) (sym is) (λ x r z. go x r (same_id id x) refl z)
  where
    go : (x : ProcId) (r : Reply) (q : Bool) → same_id id x ≡ q
        → (if q then Some reply else reply_in replies x) ≡ Some r → IsTold x r
    go x r true f z = subst (λ (y : Reply). IsTold x y) (same_Some reply r z) (own x f)
    go x r false f z = g x r z

-- ---- event by event

ran : (s : ScenarioValue) (a c : Array) (id : ProcId) (guest : Bool) (o : Option RunningProcess) → IsSound s a
    → Steps.running_process a id ≡ o → Steps.run_step a guest o ≡ Some c → AreTold a.replies → AreTold c.replies
ran s a c id guest None is f e g = none_some c e
ran s a c id guest (Some r) is f e g =
    go (is_none r.reply && (guest || not (is_held a.holds r.process.target r.process.unit))) e
  where
    u : Option UnitState
    u = unit_state_at a.units r.process.target r.process.unit

    own : r.process.id ≡ id
    own = running_id a id r f

    filled : id.sense ≡ true → is_filled (reply_at a r.process u).bytes ≡ true
    filled w = subst
        (λ (x : List ℕ). is_filled (execution (Steps.context_at a (nexus_of r.process) u) x r.process.sent).reply.bytes
        ≡ true) (sym (sense_cdb s id r.process w (running_own s a id r is f)))
        (sense_filled (Steps.context_at a (nexus_of r.process) u) r.process.sent)

    go : (x : Bool) → (if x then Some (Steps.after_execution_at a r.process u) else None) ≡ Some c → AreTold c.replies
    go true z = one_more a.replies c.replies r.process.id (reply_at a r.process u)
        (took (Steps.after_execution_at a r.process u) c _ z (executed a r.process u).replies) (λ x same. record {
          known = execution_known (Steps.context_at a (nexus_of r.process) u) r.process.cdb r.process.sent;
          filled = λ w good. filled (ap (λ (y : ProcId). y.sense) (sym own ∙ id_is r.process.id x same) ∙ w);
        }) g
    go false z = none_some c z

step_told : (s : ScenarioValue) (a d : Array) (e : Event) → IsSound s a → Steps.step s e a ≡ Some d → AreTold a.replies
    → AreTold d.replies
step_told s a d (Event.Accept id) is e g = settles (Steps.accept_step a (process_of s id)) d
    (λ (x : Array). AreTold x.replies) (λ c k. no_more a.replies c.replies (accepted a c (process_of s id) k) g) e
step_told s a d (Event.Refuse id) is e g = settles (Steps.refuse_step a (process_of s id)) d
    (λ (x : Array). AreTold x.replies) (λ c k. one_more a.replies c.replies id queue_full
    (refused s a c id (process_of s id) refl k) (λ x same. record { known = refl; filled = λ w z. wrong' z }) g) e
step_told s a d (Event.Run id) is e g = settles (Steps.run_step a (is_some (guest_at a.guests id))
    (Steps.running_process a id)) d (λ (x : Array). AreTold x.replies)
    (λ c k. ran s a c id (is_some (guest_at a.guests id)) (Steps.running_process a id) is refl k g) e
step_told s a d (Event.Fail id code) is e g = settles
    (Steps.fail_step s a id (check_condition (sense_of ABORTED_COMMAND code 0x00)) (Steps.running_process a id)) d
    (λ (x : Array). AreTold x.replies)
    (λ c k. one_more a.replies c.replies id (check_condition (sense_of ABORTED_COMMAND code 0x00))
    (fail_lists s a c id (check_condition (sense_of ABORTED_COMMAND code 0x00)) (Steps.running_process a id) k)
    (λ x same. record { known = refl; filled = λ w z. wrong' z }) g) e
step_told s a d (Event.End id status) is e g = settles
    (Steps.end_step a status (Steps.running_process a id)) d (λ (x : Array). AreTold x.replies)
    (λ c k. no_more a.replies c.replies (end_lists a c status (Steps.running_process a id) k) g) e
step_told s a d (Event.Lost id) is e g = settles (Steps.loss_step a id) d (λ (x : Array). AreTold x.replies)
    (λ c k. no_more a.replies c.replies (loss_lists a c id k) g) e
step_told s a d (Event.Aborted i t n what) is e g = settles (Some (Steps.abort_step s a i t n what)) d
    (λ (x : Array). AreTold x.replies) (λ c k. no_more a.replies c.replies
    (took (Steps.abort_step s a i t n what) c a.replies k (abort_lists s a i t n what)) g) e
step_told s a d (Event.Reset dev) is e g = settles (Some (Steps.reset_step s a)) d (λ (x : Array). AreTold x.replies)
    (λ c k. no_more a.replies c.replies (took (Steps.reset_step s a) c a.replies k (reset_lists s a)) g) e

-- ---- after every history

abbrev IfTold : Option Array → Type 0
IfTold None = ⊤
IfTold (Some a) = AreTold a.replies

told_after : (s : ScenarioValue) (h : List Event) → Obeys s → IfTold (array_after s h)
told_after s [] o = λ id reply z. absurd (no_reply reply z)
  where
    no_reply : (reply : Reply) → (let o : Option Reply = None in o) ≡ Some reply → ⊥
    no_reply reply z = absurd cc
told_after s (e ∷ h) o = go (array_after s h) refl (told_after s h o)
  where
    by : (a : Array) → IsSound s a → AreTold a.replies → (b : Option Array) → Steps.step s e a ≡ b → IfTold b
    by a is g None z = tt
    by a is g (Some d) z = step_told s a d e is z g

    go : (b : Option Array) → array_after s h ≡ b → IfTold b → IfTold (array_step s e b)
    go None z g = tt
    go (Some a) z g = by a (history_sound s h a (seats_are s (obeys_fits s o)) z) g (Steps.step s e a) refl

pub all_told : (s : ScenarioValue) (h : List Event) (a : Array) → Obeys s → array_after s h ≡ Some a → AreTold a.replies
all_told s h a o e = subst (λ (b : Option Array). IfTold b) e (told_after s h o)
