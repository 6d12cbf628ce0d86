-- The ways in which a target leaves a phase: all that `phase_leaving` makes, each by its name, with what it comes from.
-- A lemma on how phases are left goes by these ways (`leaves`), and not by the tests of `phase_leaving` once more.
use Rattle.link_laws.proofs
use proofs.Names.{◌≡◌, Bool, true, false, Option, Some, None, refl, sym, ap, subst, inl, inr, ◌⊎◌, ◌+◌, ◌==◌, ◌&&◌}
use proofs.Names.{cases_Bool, if◌then◌else◌, is_some, nat_lt, Agreement, UNLIMITED_OFFSET, MsgIn, Policy, TargetDef}
use proofs.Names.{policy_of, runs_in_all, one_message, two_messages, Serving, bus_free, phase_entry, message_in_entry}
use proofs.Names.{with_task, recovery, recovery_limit, pointer_restoration, next_data_phase, request_or_command}
use proofs.Names.{after_offer, message_repetition, message_out_leaving, after_messages, after_arrival, command_leaving}
use proofs.Names.{disconnection, disconnect_messages, after_run, data_in_leaving, data_out_leaving, unless_attention}
use proofs.Names.{phase_leaving, request_by, target_answer, is_naming, Arrival, Cause, Leaving, Next, Phase, Task}

-- ---- what a way comes from

-- Bytes go to the initiator: it may raise ATN.
pub data IsToInitiator : Phase → Type 0 where
  in_message : IsToInitiator Phase.MessageIn
  in_data : IsToInitiator Phase.DataIn
  in_status : IsToInitiator Phase.Status

-- The opening has named what is served, and no abort.
pub record IsOpened (v : Serving) : Type 0 where
  pub cause : v.plan.cause ≡ Cause.Selected
  pub none : is_some v.plan.said.aborts ≡ false

-- MESSAGE PARITY ERROR came, and no answer to a request.
pub record IsRefused (v : Serving) : Type 0 where
  pub cause : v.plan.cause ≡ Cause.InMessage
  pub none : is_some v.plan.said.offer ≡ false

-- A byte was struck, for which the pointers are restored; or the recoveries are spent, and STATUS follows.
pub data IsStruck (v : Serving) : Phase → Next → Type 0 where
  command : v.plan.struck ≡ true → IsStruck v Phase.Command Next.Command
  data_out : v.plan.struck ≡ true → IsStruck v Phase.DataOut Next.GoOn
  data_in : v.plan.cause ≡ Cause.InData → IsStruck v Phase.MessageOut Next.GoOn

-- A process goes on to its next run, or to STATUS.
pub data GoesOn (v : Serving) (atn : Bool) : Phase → Type 0 where
  planned : atn ≡ false → v.plan.next ≡ Next.GoOn → GoesOn v atn Phase.MessageIn
  at_once : v.plan.struck ≡ false → v.arrival ≡ Arrival.AtOnce → GoesOn v atn Phase.Command
  guest : v.plan.struck ≡ false → v.arrival ≡ Arrival.Guest → GoesOn v atn Phase.Command

-- A run of this process comes next.
pub record NextRun (v : Serving) (t : Task) (writes : Bool) : Type 0 where
  pub task_is : v.task ≡ Some t
  pub more : nat_lt t.runs (runs_in_all (policy_of v.def) t) ≡ true
  pub writes_is : t.writes ≡ writes

-- None comes: the process has its reply, or all its runs were made.
pub record NoRun (v : Serving) (t : Task) : Type 0 where
  pub task_is : v.task ≡ Some t
  pub why : (t.replied ≡ true) ⊎ (nat_lt t.runs (runs_in_all (policy_of v.def) t) ≡ false)

-- A run of this process was moved, and more are left, or none.
pub data IsMoved (v : Serving) (atn : Bool) : Phase → Type 0 where
  given : atn ≡ false → IsMoved v atn Phase.DataIn
  sent : v.plan.struck ≡ false → IsMoved v atn Phase.DataOut

pub record DoneRun (v : Serving) (t : Task) (more : Bool) : Type 0 where
  pub task_is : v.task ≡ Some t
  pub more_is : nat_lt (t.runs + 1) (runs_in_all (policy_of v.def) t) ≡ more

-- ---- the ways

pub data Leaves (v : Serving) (atn : Bool) : Phase → Leaving → Type 0 where
  attended : (phase : Phase) → IsToInitiator phase → atn ≡ true → Leaves v atn phase (phase_entry Phase.MessageOut)
  unserved : (phase : Phase) → v.task ≡ None → Leaves v atn phase bus_free
  -- after the opening
  aborts : v.plan.cause ≡ Cause.Selected → is_some v.plan.said.aborts ≡ true → Leaves v atn Phase.MessageOut bus_free
  rejects : (offer : Agreement) → IsOpened v → v.plan.said.offer ≡ Some offer
      → Leaves v atn Phase.MessageOut (message_in_entry (one_message MsgIn.Reject) Next.Command)
  answers : (offer : Agreement) → IsOpened v → v.plan.said.offer ≡ Some offer
      → Leaves v atn Phase.MessageOut
      (message_in_entry (one_message (MsgIn.Sdtr (target_answer v.def offer))) Next.Command)
  requests : (t : TargetDef) → IsOpened v → v.plan.said.offer ≡ None → v.def ≡ Some t
      → Leaves v atn Phase.MessageOut
      (message_in_entry
      (one_message (MsgIn.Sdtr (record { period = t.period; offset = t.offset }))) Next.Command)
  opens : IsOpened v → v.plan.said.offer ≡ None → Leaves v atn Phase.MessageOut (phase_entry Phase.Command)
  -- after the answer to a request, or MESSAGE PARITY ERROR
  is_answered : v.plan.cause ≡ Cause.InMessage → is_some v.plan.said.offer ≡ true
      → Leaves v atn Phase.MessageOut (phase_entry Phase.Command)
  repeats : (counts : Bool) → IsRefused v
      → Leaves v atn Phase.MessageOut (record (message_repetition v.plan) { counts = counts })
  loses_message : IsRefused v → Leaves v atn Phase.MessageOut bus_free
  -- after wrong parity of a command, of data or of a status
  restores : (phase : Phase) (next : Next) (counts : Bool) → IsStruck v phase next
      → Leaves v atn phase (record (pointer_restoration next) { counts = counts })
  gives_up : (phase : Phase) (next : Next) → IsStruck v phase next → Leaves v atn phase (phase_entry Phase.Status)
  restores_status : (counts : Bool) → v.plan.cause ≡ Cause.InStatus
      → Leaves v atn Phase.MessageOut (record (pointer_restoration Next.Status) { counts = counts })
  loses_status : v.plan.cause ≡ Cause.InStatus → Leaves v atn Phase.MessageOut bus_free
  -- as was planned
  commands : atn ≡ false → v.plan.next ≡ Next.Command → Leaves v atn Phase.MessageIn (phase_entry Phase.Command)
  ends_in_status : atn ≡ false → v.plan.next ≡ Next.Status → Leaves v atn Phase.MessageIn (phase_entry Phase.Status)
  frees : atn ≡ false → v.plan.next ≡ Next.FreeBus → Leaves v atn Phase.MessageIn bus_free
  -- a process goes on, or has arrived
  reads : (phase : Phase) (t : Task) → GoesOn v atn phase → NextRun v t false
      → Leaves v atn phase (phase_entry Phase.DataIn)
  writes : (phase : Phase) (t : Task) → GoesOn v atn phase → NextRun v t true
      → Leaves v atn phase (phase_entry Phase.DataOut)
  moves_none : (phase : Phase) (t : Task) → GoesOn v atn phase → NoRun v t
      → Leaves v atn phase (phase_entry Phase.Status)
  refuses : v.plan.struck ≡ false → v.arrival ≡ Arrival.Refused
      → Leaves v atn Phase.Command (phase_entry Phase.Status)
  queues : v.plan.struck ≡ false → v.arrival ≡ Arrival.Queued
      → Leaves v atn Phase.Command (disconnection (one_message MsgIn.Disconnect))
  -- after a run
  saves : (phase : Phase) (t : Task) → IsMoved v atn phase → DoneRun v t true
      → disconnect_messages (policy_of v.def) ≡ two_messages MsgIn.SavePointer MsgIn.Disconnect
      → Leaves v atn phase
      (record (disconnection (two_messages MsgIn.SavePointer MsgIn.Disconnect)) { done = true })
  disconnects : (phase : Phase) (t : Task) → IsMoved v atn phase → DoneRun v t true
      → disconnect_messages (policy_of v.def) ≡ one_message MsgIn.Disconnect
      → Leaves v atn phase (record (disconnection (one_message MsgIn.Disconnect)) { done = true })
  ends_runs : (phase : Phase) (t : Task) → IsMoved v atn phase → DoneRun v t false
      → Leaves v atn phase (record (phase_entry Phase.Status) { done = true })
  -- after STATUS
  completes : atn ≡ false → Leaves v atn Phase.Status (disconnection (one_message MsgIn.CommandComplete))

-- ---- there is no other

served : (v : Serving) (atn : Bool) (phase : Phase) (f : Task → Leaving)
    → ((t : Task) → v.task ≡ Some t → Leaves v atn phase (f t))
    → Leaves v atn phase (with_task v.task f)
served v atn phase f h = go v.task refl
  where
    go : (o : Option Task) → v.task ≡ o → Leaves v atn phase (with_task o f)
    go None e = unserved phase e
    go (Some t) e = h t e

recovers : (v : Serving) (atn : Bool) (phase : Phase) (t : Task) (again over : Leaving)
    → ((counts : Bool) → Leaves v atn phase (record again { counts = counts })) → again.counts ≡ false
    → Leaves v atn phase over
    → Leaves v atn phase (recovery v.def t again over)
recovers v atn phase t again over h none e = go t.in_hold (nat_lt t.recoveries (recovery_limit v.def))
  where
    go : (q r : Bool) → Leaves v atn phase (if q then again else if r then record again { counts = true } else over)
    go true r = subst (λ (x : Bool). Leaves v atn phase (record again { counts = x })) (sym none) (h false)
    go false true = h true
    go false false = e

attends : (v : Serving) (atn : Bool) (phase : Phase) (l : Leaving) → IsToInitiator phase
    → (atn ≡ false → Leaves v atn phase l)
    → Leaves v atn phase (unless_attention atn l)
attends v true phase l i h = attended phase i refl
attends v false phase l i h = h refl

goes : (v : Serving) (atn : Bool) (phase : Phase) (t : Task) → GoesOn v atn phase → v.task ≡ Some t
    → Leaves v atn phase (phase_entry (next_data_phase (policy_of v.def) t t.runs))
goes v atn phase t g e = go t.replied refl (nat_lt t.runs (runs_in_all (policy_of v.def) t)) refl t.writes refl
  where
    go : (q : Bool) → t.replied ≡ q → (r : Bool) → nat_lt t.runs (runs_in_all (policy_of v.def) t) ≡ r
        → (w : Bool) → t.writes ≡ w
        → Leaves v atn phase
        (phase_entry
        (if q then Phase.Status else if r then (if w then Phase.DataOut else Phase.DataIn) else Phase.Status))
    go true d r f w h = moves_none phase t g (record { task_is = e; why = inl d })
    go false d true f true h = writes phase t g (record { task_is = e; more = f; writes_is = h })
    go false d true f false h = reads phase t g (record { task_is = e; more = f; writes_is = h })
    go false d false f w h = moves_none phase t g (record { task_is = e; why = inr f })

struck : (v : Serving) (atn : Bool) (phase : Phase) (next : Next) (t : Task) → IsStruck v phase next
    → Leaves v atn phase (recovery v.def t (pointer_restoration next) (phase_entry Phase.Status))
struck v atn phase next t h =
    recovers v atn phase t (pointer_restoration next) (phase_entry Phase.Status)
    (λ counts. restores phase next counts h) refl (gives_up phase next h)

moved : (v : Serving) (atn : Bool) (phase : Phase) (t : Task) → IsMoved v atn phase → v.task ≡ Some t
    → Leaves v atn phase (after_run (policy_of v.def) t)
moved v atn phase t m e = go (nat_lt (t.runs + 1) (runs_in_all (policy_of v.def) t)) refl (policy_of v.def) refl
  where
    go : (q : Bool) → nat_lt (t.runs + 1) (runs_in_all (policy_of v.def) t) ≡ q → (x : Policy) → policy_of v.def ≡ x
        → Leaves v atn phase
        (record (if q then disconnection (disconnect_messages x) else phase_entry Phase.Status) { done = true })
    go false f x is = ends_runs phase t m (record { task_is = e; more_is = f })
    go true f (Policy.Burst most) is =
        saves phase t m (record { task_is = e; more_is = f }) (ap disconnect_messages is)
    go true f _ is =
        disconnects phase t m (record { task_is = e; more_is = f }) (ap disconnect_messages is)

opening : (v : Serving) (atn : Bool) → v.plan.cause ≡ Cause.Selected
    → Leaves v atn Phase.MessageOut (message_out_leaving v Cause.Selected)
opening v atn c = go (is_some v.plan.said.aborts) refl
  where
    asks : (def : Option TargetDef) → v.def ≡ def → IsOpened v → v.plan.said.offer ≡ None
        → Leaves v atn Phase.MessageOut (request_or_command (request_by def))
    asks None e o h = opens o h
    asks (Some t) e o h =
        elim (cases_Bool (t.begins && nat_lt 0 t.period)) [ inl f ↦ rw f (requests t o h e) | inr f ↦ rw f (opens o h) ]

    replies : (offer : Agreement) → IsOpened v → v.plan.said.offer ≡ Some offer → (q : Bool)
        → Leaves v atn Phase.MessageOut
        (message_in_entry
        (one_message
        (if q then MsgIn.Reject else MsgIn.Sdtr (target_answer v.def offer))) Next.Command)
    replies offer o e true = rejects offer o e
    replies offer o e false = answers offer o e

    offers : IsOpened v → (may : Bool) (offer : Option Agreement) → v.plan.said.offer ≡ offer
        → Leaves v atn Phase.MessageOut (after_offer v.def may offer)
    offers o may (Some offer) e = replies offer o e (offer.offset == UNLIMITED_OFFSET)
    offers o true None e = asks v.def refl o e
    offers o false None e = opens o e

    go : (q : Bool) → is_some v.plan.said.aborts ≡ q
        → Leaves v atn Phase.MessageOut (if q then bus_free else after_offer v.def v.plan.negotiates v.plan.said.offer)
    go true e = aborts c e
    go false e = offers (record { cause = c; none = e }) v.plan.negotiates v.plan.said.offer refl

refusal : (v : Serving) (atn : Bool) → v.plan.cause ≡ Cause.InMessage
    → Leaves v atn Phase.MessageOut (message_out_leaving v Cause.InMessage)
refusal v atn c = go (is_some v.plan.said.offer) refl (is_naming v.plan.messages.first)
  where
    go : (q : Bool) → is_some v.plan.said.offer ≡ q → (r : Bool)
        → Leaves v atn Phase.MessageOut
        (if q then phase_entry Phase.Command else if r then message_repetition v.plan else with_task v.task
        (λ t. recovery v.def t (message_repetition v.plan) bus_free))
    go true e r = is_answered c e
    go false e true = repeats false (record { cause = c; none = e })
    go false e false =
        let w : IsRefused v = record { cause = c; none = e } in
        served v atn Phase.MessageOut _
        (λ t h. recovers v atn Phase.MessageOut t (message_repetition v.plan) bus_free
        (λ counts. repeats counts w) refl (loses_message w))

by_cause : (v : Serving) (atn : Bool) (cause : Cause) → v.plan.cause ≡ cause
    → Leaves v atn Phase.MessageOut (message_out_leaving v cause)
by_cause v atn Cause.Selected c = opening v atn c
by_cause v atn Cause.InMessage c = refusal v atn c
by_cause v atn Cause.InData c =
    served v atn Phase.MessageOut _ (λ t h. struck v atn Phase.MessageOut Next.GoOn t (data_in c))
by_cause v atn Cause.InStatus c =
    served v atn Phase.MessageOut _
    (λ t h. recovers v atn Phase.MessageOut t (pointer_restoration Next.Status) bus_free
    (λ counts. restores_status counts c) refl (loses_status c))

by_next : (v : Serving) (atn : Bool) → atn ≡ false → (next : Next) → v.plan.next ≡ next
    → Leaves v atn Phase.MessageIn (after_messages v next)
by_next v atn a Next.Command e = commands a e
by_next v atn a Next.Status e = ends_in_status a e
by_next v atn a Next.FreeBus e = frees a e
by_next v atn a Next.GoOn e = served v atn Phase.MessageIn _ (λ t h. goes v atn Phase.MessageIn t (planned a e) h)

arrives : (v : Serving) (atn : Bool) (t : Task) (a : Arrival) → v.plan.struck ≡ false → v.arrival ≡ a → v.task ≡ Some t
    → Leaves v atn Phase.Command (after_arrival v.def t a)
arrives v atn t Arrival.Refused f e h = refuses f e
arrives v atn t Arrival.Guest f e h = goes v atn Phase.Command t (guest f e) h
arrives v atn t Arrival.AtOnce f e h = goes v atn Phase.Command t (at_once f e) h
arrives v atn t Arrival.Queued f e h = queues f e

from_command : (v : Serving) (atn : Bool) → Leaves v atn Phase.Command (command_leaving v v.arrival)
from_command v atn = served v atn Phase.Command _ (λ t h. go v.plan.struck refl t h)
  where
    go : (q : Bool) → v.plan.struck ≡ q → (t : Task) → v.task ≡ Some t
        → Leaves v atn Phase.Command
        (if q then recovery v.def t (pointer_restoration Next.Command) (phase_entry Phase.Status)
        else after_arrival v.def t v.arrival)
    go true e t h = struck v atn Phase.Command Next.Command t (command e)
    go false e t h = arrives v atn t v.arrival e refl h

from_data_out : (v : Serving) (atn : Bool) → Leaves v atn Phase.DataOut (data_out_leaving v)
from_data_out v atn = served v atn Phase.DataOut _ (λ t h. go v.plan.struck refl t h)
  where
    go : (q : Bool) → v.plan.struck ≡ q → (t : Task) → v.task ≡ Some t
        → Leaves v atn Phase.DataOut
        (if q then recovery v.def t (pointer_restoration Next.GoOn) (phase_entry Phase.Status) else after_run
        (policy_of v.def) t)
    go true e t h = struck v atn Phase.DataOut Next.GoOn t (data_out e)
    go false e t h = moved v atn Phase.DataOut t (sent e) h

from_data_in : (v : Serving) (atn : Bool) → atn ≡ false → Leaves v atn Phase.DataIn (data_in_leaving v)
from_data_in v atn a = served v atn Phase.DataIn _ (λ t h. moved v atn Phase.DataIn t (given a) h)

pub leaves : (v : Serving) (atn : Bool) (phase : Phase) → Leaves v atn phase (phase_leaving v atn phase)
leaves v atn Phase.MessageOut = by_cause v atn v.plan.cause refl
leaves v atn Phase.MessageIn = attends v atn Phase.MessageIn _ in_message (λ a. by_next v atn a v.plan.next refl)
leaves v atn Phase.Command = from_command v atn
leaves v atn Phase.DataIn = attends v atn Phase.DataIn _ in_data (from_data_in v atn)
leaves v atn Phase.DataOut = from_data_out v atn
leaves v atn Phase.Status = attends v atn Phase.Status _ in_status (λ a. completes a)
