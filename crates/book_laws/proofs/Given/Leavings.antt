-- The messages of a target: with whatever phase it leaves a phase for, they are names of a reselection that it says
-- again, or none.
use Rattle.book_laws.proofs
use proofs.Names.{◌≡◌, Bool, true, false, ◌&&◌, Option, Some, None, refl, ◌+◌, inl, inr, cases_Bool, if◌then◌else◌}
use proofs.Names.{◌==◌, is_some, nat_lt, LineSet, Agreement, UNLIMITED_OFFSET, MsgIn, Policy, TargetDef, policy_of}
use proofs.Names.{runs_in_all, one_message, Serving, phase_of, bus_free, phase_entry, with_task, recovery}
use proofs.Names.{recovery_limit, pointer_restoration, next_data_phase, request_or_command, after_offer}
use proofs.Names.{message_repetition, message_out_leaving, after_messages, disconnection, after_arrival}
use proofs.Names.{command_leaving, disconnect_messages, after_run, data_in_leaving, data_out_leaving, phase_leaving}
use proofs.Names.{leaving_by, reply_to, request_by, is_naming, target_answer, Arrival, Cause, Leaving, Next, Phase}
use proofs.Names.{Task, OnMessage, OnMessages}

-- What any message of a target but a name is.
pub record IsOfOthers (q : MsgIn → Type 0) : Type 0 where
  pub complete : q MsgIn.CommandComplete
  pub save : q MsgIn.SavePointer
  pub restore : q MsgIn.RestorePointers
  pub disconnect : q MsgIn.Disconnect
  pub sdtr : (a : Agreement) → q (MsgIn.Sdtr a)
  pub reject : q MsgIn.Reject

abbrev On : (MsgIn → Type 0) → Leaving → Type 0
On q l = OnMessages q l.messages

either : (q : MsgIn → Type 0) (r : Bool) (a b : Leaving) → On q a → On q b → On q (if r then a else b)
either q true a b h g = h
either q false a b h g = g

recovers : (q : MsgIn → Type 0) (def : Option TargetDef) (t : Task) (a b : Leaving) → On q a → On q b
    → On q (recovery def t a b)
recovers q def t a b h g = go t.in_hold (nat_lt t.recoveries (recovery_limit def))
  where
    go : (r z : Bool) → On q (if r then a else if z then record a { counts = true } else b)
    go true z = h
    go false true = h
    go false false = g

asks : (q : MsgIn → Type 0) → IsOfOthers q → (m : Option MsgIn) → OnMessage q m → On q (request_or_command m)
asks q o None h = (tt, tt)
asks q o (Some m) h = (h, tt)

replies : (q : MsgIn → Type 0) → IsOfOthers q → (def : Option TargetDef) (offer : Agreement) → q (reply_to def offer)
replies q o def offer =
    elim (cases_Bool (offer.offset == UNLIMITED_OFFSET)) [
      | inl e ↦ rw e o.reject
      | inr e ↦ rw e (o.sdtr (target_answer def offer))
    ]

requests : (q : MsgIn → Type 0) → IsOfOthers q → (def : Option TargetDef) → OnMessage q (request_by def)
requests q o None = tt
requests q o (Some t) = elim (cases_Bool (t.begins && nat_lt 0 t.period)) [ inl e ↦ rw e (o.sdtr _) | inr e ↦ rw e tt ]

offers : (q : MsgIn → Type 0) → IsOfOthers q → (def : Option TargetDef) (negotiates : Bool) (offer : Option Agreement)
    → On q (after_offer def negotiates offer)
offers q o def negotiates (Some offer) = (replies q o def offer, tt)
offers q o def true None = asks q o (request_by def) (requests q o def)
offers q o def false None = (tt, tt)

restores : (q : MsgIn → Type 0) → IsOfOthers q → (next : Next) → On q (pointer_restoration next)
restores q o next = (o.restore, tt)

refuses : (q : MsgIn → Type 0) (v : Serving) (again : Leaving) (task : Option Task) → On q again
    → On q (with_task task (λ t. recovery v.def t again bus_free))
refuses q v again None h = (tt, tt)
refuses q v again (Some t) h = recovers q v.def t again bus_free h (tt, tt)

out_left : (q : MsgIn → Type 0) → IsOfOthers q → (v : Serving) → OnMessages q v.plan.messages
    → (cause : Cause) (task : Option Task) → v.task ≡ task → On q (message_out_leaving v cause)
out_left q o v h Cause.Selected task e = either q (is_some v.plan.said.aborts) bus_free
    (after_offer v.def v.plan.negotiates v.plan.said.offer) (tt, tt)
    (offers q o v.def v.plan.negotiates v.plan.said.offer)
out_left q o v h Cause.InMessage task e = either q (is_some v.plan.said.offer)
    (phase_entry Phase.Command) (if is_naming v.plan.messages.first then message_repetition v.plan
    else with_task v.task (λ t. recovery v.def t (message_repetition v.plan) bus_free))
    (tt, tt) (either q (is_naming v.plan.messages.first) (message_repetition v.plan)
    (with_task v.task (λ t. recovery v.def t (message_repetition v.plan) bus_free)) h
    (refuses q v (message_repetition v.plan) v.task h))
out_left q o v h Cause.InData task e = go v.task
  where
    go : (t : Option Task)
        → On q (with_task t (λ t. recovery v.def t (pointer_restoration Next.GoOn) (phase_entry Phase.Status)))
    go None = (tt, tt)
    go (Some t) =
        recovers q v.def t (pointer_restoration Next.GoOn) (phase_entry Phase.Status) (restores q o Next.GoOn) (tt, tt)
out_left q o v h Cause.InStatus task e = go v.task
  where
    go : (t : Option Task) → On q (with_task t (λ t. recovery v.def t (pointer_restoration Next.Status) bus_free))
    go None = (tt, tt)
    go (Some t) = recovers q v.def t (pointer_restoration Next.Status) bus_free (restores q o Next.Status) (tt, tt)

in_left : (q : MsgIn → Type 0) (v : Serving) (next : Next) → On q (after_messages v next)
in_left q v Next.GoOn = go v.task
  where
    go : (t : Option Task) → On q (with_task t (λ t. phase_entry (next_data_phase (policy_of v.def) t t.runs)))
    go None = (tt, tt)
    go (Some t) = (tt, tt)
in_left q v _ = (tt, tt)

arrives : (q : MsgIn → Type 0) → IsOfOthers q → (def : Option TargetDef) (t : Task) (arrival : Arrival)
    → On q (after_arrival def t arrival)
arrives q o def t Arrival.Queued = (o.disconnect, tt)
arrives q o def t _ = (tt, tt)

command_left : (q : MsgIn → Type 0) → IsOfOthers q → (v : Serving) (arrival : Arrival)
    → On q (command_leaving v arrival)
command_left q o v arrival = go v.task v.plan.struck
  where
    go : (task : Option Task) (r : Bool) → On q
        (with_task task (λ t. if r then recovery v.def t (pointer_restoration Next.Command) (phase_entry Phase.Status)
        else after_arrival v.def t arrival))
    go None r = (tt, tt)
    go (Some t) true = recovers q v.def t (pointer_restoration Next.Command) (phase_entry Phase.Status)
        (restores q o Next.Command) (tt, tt)
    go (Some t) false = arrives q o v.def t arrival

run_left : (q : MsgIn → Type 0) → IsOfOthers q → (policy : Policy) (t : Task) → On q (after_run policy t)
run_left q o policy t = go (nat_lt (t.runs + 1) (runs_in_all policy t)) policy
  where
    go : (r : Bool) (x : Policy)
        → On q (record (if r then disconnection (disconnect_messages x) else phase_entry Phase.Status) { done = true })
    go true (Policy.Burst most) = (o.save, o.disconnect)
    go false x = (tt, tt)
    go true _ = (o.disconnect, tt)

data_left : (q : MsgIn → Type 0) → IsOfOthers q → (policy : Policy) (task : Option Task)
    → On q (with_task task (λ t. after_run policy t))
data_left q o policy None = (tt, tt)
data_left q o policy (Some t) = run_left q o policy t

sent_left : (q : MsgIn → Type 0) → IsOfOthers q → (v : Serving) → On q (data_out_leaving v)
sent_left q o v = go v.task v.plan.struck
  where
    go : (task : Option Task) (r : Bool) → On q
        (with_task task (λ t. if r then recovery v.def t (pointer_restoration Next.GoOn) (phase_entry Phase.Status)
        else after_run (policy_of v.def) t))
    go None r = (tt, tt)
    go (Some t) true =
        recovers q v.def t (pointer_restoration Next.GoOn) (phase_entry Phase.Status) (restores q o Next.GoOn) (tt, tt)
    go (Some t) false = run_left q o (policy_of v.def) t

phase_left : (q : MsgIn → Type 0) → IsOfOthers q → (v : Serving) → OnMessages q v.plan.messages
    → (attention : Bool) (phase : Phase) → On q (phase_leaving v attention phase)
phase_left q o v h attention Phase.MessageOut = out_left q o v h v.plan.cause v.task refl
phase_left q o v h attention Phase.MessageIn =
    either q attention (phase_entry Phase.MessageOut) (after_messages v v.plan.next) (tt, tt) (in_left q v v.plan.next)
phase_left q o v h attention Phase.Command = command_left q o v v.arrival
phase_left q o v h attention Phase.DataIn = either q attention (phase_entry Phase.MessageOut) (data_in_leaving v)
    (tt, tt) (data_left q o (policy_of v.def) v.task)
phase_left q o v h attention Phase.DataOut = sent_left q o v
phase_left q o v h attention Phase.Status = either q attention (phase_entry Phase.MessageOut)
    (disconnection (one_message MsgIn.CommandComplete)) (tt, tt) (o.complete, tt)

pub left_messages : (q : MsgIn → Type 0) → IsOfOthers q → (v : Serving) (begun : Bool) (bus : LineSet)
    → OnMessages q v.plan.messages → OnMessages q (leaving_by v begun bus).messages
left_messages q o v true bus h = phase_left q o v h bus.atn (phase_of bus)
left_messages q o v false bus h = (tt, tt)
