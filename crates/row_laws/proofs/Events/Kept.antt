-- The plain disk array keeps the reply of a process with each event that shows no other of it.
use Rattle.row_laws.proofs
use proofs.Names.{◌≡◌, Bool, false, ◌∙◌, List, [], ◌∷◌, Option, Some, None, refl, ap, if◌then◌else◌, is_some, ⊤, Event}
use proofs.Names.{ProcId, ABORTED_COMMAND, ScenarioValue, fail_lists, loss_lists, abort_lists, took, reset_lists}
use proofs.Names.{end_lists, array_step, reply_in, Reply, queue_full, check_condition, sense_of, process_of, same_id}
use proofs.{Names.{step, running_process, Array, guest_at, array_after_events}, Events.Replies.{settles, accepted}}
use proofs.Events.Replies.{refused, ran, replies_to}
use Rattle.due_model.specs.array_model.specs.Steps

-- ---- an event

abbrev Keeps : Event → Array → Array → Type 0
Keeps e a b = (id : ProcId) → replies_to e id ≡ false → reply_in b.replies id ≡ reply_in a.replies id

same_list : (a b : Array) → b.replies ≡ a.replies → (id : ProcId) → reply_in b.replies id ≡ reply_in a.replies id
same_list a b e id = ap (λ (x : List (ProcId × Reply)). reply_in x id) e

one_more : (a b : Array) (d : ProcId) (reply : Reply) → b.replies ≡ (d, reply) ∷ a.replies
    → (id : ProcId) → same_id d id ≡ false → reply_in b.replies id ≡ reply_in a.replies id
one_more a b d reply e id f = ap (λ (x : List (ProcId × Reply)). reply_in x id) e
    ∙ ap (λ (q : Bool). if q then Some reply else reply_in a.replies id) f

kept_on : (s : ScenarioValue) (a b : Array) (e : Event) → step s e a ≡ Some b → Keeps e a b
kept_on s a b (Event.Accept p) st = settles (Steps.accept_step a (process_of s p)) b
    (λ (x : Array). Keeps (Event.Accept p) a x) (λ c k id f. same_list a c (accepted a c (process_of s p) k) id) st
kept_on s a b (Event.Refuse p) st = settles (Steps.refuse_step a (process_of s p)) b (λ (x : Array). Keeps
    (Event.Refuse p) a x) (λ c k id f. one_more a c p queue_full (refused s a c p (process_of s p) refl k) id f) st
kept_on s a b (Event.Run p) st = settles (Steps.run_step a (is_some (guest_at a.guests p)) (running_process a p)) b
    (λ (x : Array). Keeps (Event.Run p) a x)
    (λ c k id f. let w = ran a c (is_some (guest_at a.guests p)) p (running_process a p) refl k in
    one_more a c p w.reply w.lists id f) st
kept_on s a b (Event.Fail p code) st = settles
    (Steps.fail_step s a p (check_condition (sense_of ABORTED_COMMAND code 0x00)) (running_process a p)) b
    (λ (x : Array). Keeps (Event.Fail p code) a x)
    (λ c k id f. one_more a c p (check_condition (sense_of ABORTED_COMMAND code 0x00))
    (fail_lists s a c p (check_condition (sense_of ABORTED_COMMAND code 0x00)) (running_process a p) k) id f) st
kept_on s a b (Event.End p status) st = settles (Steps.end_step a status (running_process a p)) b (λ (x : Array). Keeps
    (Event.End p status) a x) (λ c k id f. same_list a c (end_lists a c status (running_process a p) k) id) st
kept_on s a b (Event.Lost p) st = settles (Steps.loss_step a p) b (λ (x : Array). Keeps (Event.Lost p) a x)
    (λ c k id f. same_list a c (loss_lists a c p k) id) st
kept_on s a b (Event.Aborted i t n what) st = settles (Some (Steps.abort_step s a i t n what)) b
    (λ (x : Array). Keeps (Event.Aborted i t n what) a x) (λ c k id f. same_list a c
    (took (Steps.abort_step s a i t n what) c a.replies k (abort_lists s a i t n what)) id) st
kept_on s a b (Event.Reset dev) st = settles (Some (Steps.reset_step s a)) b
    (λ (x : Array). Keeps (Event.Reset dev) a x)
    (λ c k id f. same_list a c (took (Steps.reset_step s a) c a.replies k (reset_lists s a)) id) st

-- ---- the events of a row

abbrev pub NoReplyTo : ProcId → List Event → Type 0
NoReplyTo id [] = ⊤
NoReplyTo id (e ∷ shown) = (replies_to e id ≡ false) × NoReplyTo id shown

pub no_array : {A : Type 0} (s : ScenarioValue) (e : Event) (c : Array) → array_step s e None ≡ Some c → A
no_array s e c st = absurd cc

same_array : (a b : Array) → Some a ≡ Some b → b ≡ a
same_array a b e = cc

pub events_keep : (s : ScenarioValue) (a : Array) (shown : List Event) (b : Array) (id : ProcId)
    → array_after_events s (Some a) shown ≡ Some b → NoReplyTo id shown → reply_in b.replies id ≡ reply_in a.replies id
events_keep s a [] b id e none = ap (λ (x : Array). reply_in x.replies id) (same_array a b e)
events_keep s a (event ∷ shown) b id e none =
    go (λ x f. events_keep s a shown x id f none.1) (array_after_events s (Some a) shown) refl e
  where
    go : ((x : Array) → array_after_events s (Some a) shown ≡ Some x → reply_in x.replies id ≡ reply_in a.replies id)
        → (o : Option Array) → array_after_events s (Some a) shown ≡ o → array_step s event o ≡ Some b
        → reply_in b.replies id ≡ reply_in a.replies id
    go before None f h = no_array s event b h
    go before (Some x) f h = kept_on s x b event h id none.0 ∙ before x f
