-- Why each process has its reply: the plain disk array carried it out, or it failed, or it was refused (7.2, 7.3, 7.8).
use Rattle.delivery_laws.proofs
use proofs.Names.{◌≡◌, Bool, true, false, not, ◌&&◌, ◌||◌, List, [], ◌∷◌, Option, Some, None, refl, sym, subst}
use proofs.Names.{and_from, or_left, or_right, same_Some, if◌then◌else◌, ◌==◌, is_none, is_some, eq_self, Event, ProcId}
use proofs.Names.{ScenarioValue, Obeys, abort_lists, end_lists, fail_lists, loss_lists, reset_lists, took}
use proofs.Names.{history_sound, array_after, array_step, reply_in, Reply, aborted_reply, queue_full, process_of}
use proofs.Names.{same_id, IsSound, Array, RunningProcess, guest_at, is_held, unit_state_at, same_event, obeys_fits}
use proofs.Names.{seats_are, id_is, self_id, has_event, none_some, executed, reply_at, accepted}
use proofs.Names.{refused as lists_refused, running_id, settles, running_own, HasRun, IsGiven, failed, ran}
use Rattle.delivery_laws.specs.Delivery.{refused}
use Rattle.due_model.specs.array_model.specs.Steps

abbrev AreGiven : ScenarioValue → List Event → List (ProcId × Reply) → Type 0
AreGiven s h replies = (id : ProcId) (reply : Reply) → reply_in replies id ≡ Some reply → IsGiven s h id reply

given_later : (s : ScenarioValue) (h : List Event) (e : Event) (id : ProcId) (reply : Reply) → IsGiven s h id reply
    → IsGiven s (e ∷ h) id reply
given_later s h e id reply (ran w) = ran (record {
  later = e ∷ w.later;
  earlier = w.earlier;
  split = λ i. e ∷ w.split i;
  array = w.array;
  array_is = w.array_is;
  process = w.process;
  process_is = w.process_is;
  reply_is = w.reply_is;
})
given_later s h e id reply (failed code f g) =
    failed code (or_right (same_event e (Event.Fail id code)) (has_event h (Event.Fail id code)) f) g
given_later s h e id reply (refused f g) =
    refused (or_right (same_event e (Event.Refuse id)) (has_event h (Event.Refuse id)) f) g

no_more : (s : ScenarioValue) (h : List Event) (e : Event) (replies after : List (ProcId × Reply)) → after ≡ replies
    → AreGiven s h replies → AreGiven s (e ∷ h) after
no_more s h e replies after is g = subst (λ (x : List (ProcId × Reply)). AreGiven s (e ∷ h) x) (sym is)
    (λ id reply z. given_later s h e id reply (g id reply z))

one_more : (s : ScenarioValue) (h : List Event) (e : Event)
    (replies after : List (ProcId × Reply)) (id : ProcId) (reply : Reply)
    → after ≡ (id, reply) ∷ replies → IsGiven s (e ∷ h) id reply → AreGiven s h replies → AreGiven s (e ∷ h) after
one_more s h e replies after id reply is own g =
    subst (λ (x : List (ProcId × Reply)). AreGiven s (e ∷ h) x) (sym is) (λ x r z. go x r (same_id id x) refl z)
  where
    go : (x : ProcId) (r : Reply) (q : Bool) → same_id id x ≡ q
        → (if q then Some reply else reply_in replies x) ≡ Some r → IsGiven s (e ∷ h) x r
    go x r true f z = subst (λ (y : Reply). IsGiven s (e ∷ h) x y) (same_Some reply r z)
        (subst (λ (y : ProcId). IsGiven s (e ∷ h) y reply) (id_is id x f) own)
    go x r false f z = given_later s h e x r (g x r z)

run_given : (s : ScenarioValue) (h : List Event) (a c : Array) (id : ProcId) (guest : Bool) (o : Option RunningProcess)
    → array_after s h ≡ Some a → IsSound s a → Steps.running_process a id ≡ o → Steps.run_step a guest o ≡ Some c
    → AreGiven s h a.replies → AreGiven s (Event.Run id ∷ h) c.replies
run_given s h a c id guest None was sound f e g = none_some c e
run_given s h a c id guest (Some r) was sound f e g =
    go (is_none r.reply && (guest || not (is_held a.holds r.process.target r.process.unit))) e
  where
    own : r.process.id ≡ id
    own = running_id a id r f

    reply : Reply
    reply = reply_at a r.process (unit_state_at a.units r.process.target r.process.unit)

    now : HasRun s (Event.Run id ∷ h) id reply
    now = record {
      later = [];
      earlier = h;
      split = refl;
      array = a;
      array_is = was;
      process = r.process;
      process_is = running_own s a id r sound f;
      reply_is = refl;
    }

    go : (x : Bool)
        → (if x then Some (Steps.after_execution_at a r.process (unit_state_at a.units r.process.target r.process.unit))
        else None) ≡ Some c → AreGiven s (Event.Run id ∷ h) c.replies
    go true z = one_more s h (Event.Run id) a.replies c.replies r.process.id reply
        (took (Steps.after_execution_at a r.process (unit_state_at a.units r.process.target r.process.unit)) c
        ((r.process.id, reply) ∷ a.replies) z
        (executed a r.process (unit_state_at a.units r.process.target r.process.unit)).replies)
        (subst (λ (x : ProcId). IsGiven s (Event.Run id ∷ h) x reply) (sym own) (ran now)) g
    go false z = none_some c z

step_given : (s : ScenarioValue) (h : List Event) (a d : Array) (e : Event) → array_after s h ≡ Some a → IsSound s a
    → Steps.step s e a ≡ Some d → AreGiven s h a.replies → AreGiven s (e ∷ h) d.replies
step_given s h a d (Event.Accept id) was is e g = settles (Steps.accept_step a (process_of s id)) d
    (λ (x : Array). AreGiven s (Event.Accept id ∷ h) x.replies)
    (λ c k. no_more s h (Event.Accept id) a.replies c.replies (accepted a c (process_of s id) k) g) e
step_given s h a d (Event.Refuse id) was is e g = settles (Steps.refuse_step a (process_of s id)) d
    (λ (x : Array). AreGiven s (Event.Refuse id ∷ h) x.replies) (λ c k. one_more s h
    (Event.Refuse id) a.replies c.replies id queue_full (lists_refused s a c id (process_of s id) refl k)
    (refused (or_left (same_id id id) (has_event h (Event.Refuse id)) (self_id id)) refl) g) e
step_given s h a d (Event.Run id) was is e g = settles (Steps.run_step a (is_some (guest_at a.guests id))
    (Steps.running_process a id)) d (λ (x : Array). AreGiven s (Event.Run id ∷ h) x.replies)
    (λ c k. run_given s h a c id (is_some (guest_at a.guests id)) (Steps.running_process a id) was is refl k g) e
step_given s h a d (Event.Fail id code) was is e g = settles
    (Steps.fail_step s a id (aborted_reply code) (Steps.running_process a id)) d
    (λ (x : Array). AreGiven s (Event.Fail id code ∷ h) x.replies) (λ c k. one_more s h (Event.Fail id code) a.replies
    c.replies id (aborted_reply code) (fail_lists s a c id (aborted_reply code) (Steps.running_process a id) k)
    (failed code (or_left (same_id id id && code == code) (has_event h (Event.Fail id code))
    (and_from (same_id id id) (code == code) (self_id id) (eq_self code))) refl) g) e
step_given s h a d (Event.End id status) was is e g = settles (Steps.end_step a status (Steps.running_process a id)) d
    (λ (x : Array). AreGiven s (Event.End id status ∷ h) x.replies) (λ c k. no_more s h
    (Event.End id status) a.replies c.replies (end_lists a c status (Steps.running_process a id) k) g) e
step_given s h a d (Event.Lost id) was is e g = settles (Steps.loss_step a id) d (λ (x : Array). AreGiven s
    (Event.Lost id ∷ h) x.replies) (λ c k. no_more s h (Event.Lost id) a.replies c.replies (loss_lists a c id k) g) e
step_given s h a d (Event.Aborted i t n what) was is e g = settles (Some (Steps.abort_step s a i t n what)) d
    (λ (x : Array). AreGiven s (Event.Aborted i t n what ∷ h) x.replies) (λ c k. no_more s h (Event.Aborted i t n what)
    a.replies c.replies (took (Steps.abort_step s a i t n what) c a.replies k (abort_lists s a i t n what)) g) e
step_given s h a d (Event.Reset dev) was is e g = settles (Some (Steps.reset_step s a)) d
    (λ (x : Array). AreGiven s (Event.Reset dev ∷ h) x.replies) (λ c k. no_more s h
    (Event.Reset dev) a.replies c.replies (took (Steps.reset_step s a) c a.replies k (reset_lists s a)) g) e

pub all_given : (s : ScenarioValue) (h : List Event) (a : Array) → Obeys s → array_after s h ≡ Some a
    → AreGiven s h a.replies
all_given s [] a o e =
    subst (λ (x : Array). AreGiven s [] x.replies) (same_Some _ a e) (λ id reply z. none_some reply z)
all_given s (x ∷ h) a o e = go (array_after s h) refl (λ b z. all_given s h b o z) e
  where
    go : (b : Option Array) → array_after s h ≡ b → ((c : Array) → array_after s h ≡ Some c → AreGiven s h c.replies)
        → array_step s x b ≡ Some a → AreGiven s (x ∷ h) a.replies
    go None z before step = none_some a step
    go (Some b) z before step =
        step_given s h b a x z (history_sound s h b (seats_are s (obeys_fits s o)) z) step (before b z)
