-- Which phase follows, by where the process that is served stands in the plain disk array (6.1.5, 6.6).
use Rattle.trace_laws.proofs
use proofs.Names.{inl, inr, ◌≡◌, ◌⊎◌, ◌+◌, Bool, true, false, Option, Some, None, refl, sym, ◌∙◌, if◌then◌else◌}
use proofs.Names.{is_some, nat_lt, ⊤, wrong, Agreement, MsgIn, Policy, TargetDef, policy_of, runs_in_all, one_message}
use proofs.Names.{Serving, bus_free, phase_entry, with_task, recovery, recovery_limit, pointer_restoration}
use proofs.Names.{next_data_phase, request_or_command, after_offer, message_repetition, message_out_leaving}
use proofs.Names.{after_messages, after_arrival, phase_leaving, request_by, is_naming, Arrival, Cause, Leaving}
use proofs.Names.{Messages, Next, Phase, Task, TellNoEnd}
use Rattle.story_laws.specs.link_laws.proofs.LeavingWays as ways

-- ---- of a process that runs

-- It does not disconnect where it stands outside the queue.
abbrev pub RunningSays : Bool → Messages → Next → Type 0
RunningSays outside m Next.GoOn = ⊤
RunningSays outside m Next.FreeBus = (outside ≡ false) × TellNoEnd m
RunningSays outside m Next.Command = ⊥
RunningSays outside m Next.Status = ⊥

abbrev pub RunningTo : Bool → Option Phase → Messages → Next → Type 0
RunningTo outside None m next = ⊤
RunningTo outside (Some Phase.MessageOut) m next = ⊤
RunningTo outside (Some Phase.MessageIn) m next = RunningSays outside m next
RunningTo outside (Some Phase.Command) m next = ⊥
RunningTo outside (Some Phase.Status) m next = ⊤
RunningTo outside (Some Phase.DataIn) m next = ⊤
RunningTo outside (Some Phase.DataOut) m next = ⊤

abbrev pub LeadsRunning : Bool → Leaving → Type 0
LeadsRunning outside l = RunningTo outside l.to l.messages l.next

-- ---- of one that was answered

abbrev pub AnsweredSays : Messages → Next → Type 0
AnsweredSays m Next.Status = ⊤
AnsweredSays m Next.FreeBus = m ≡ one_message MsgIn.CommandComplete
AnsweredSays m Next.Command = ⊥
AnsweredSays m Next.GoOn = ⊥

abbrev pub AnsweredTo : Option Phase → Messages → Next → Type 0
AnsweredTo None m next = ⊤
AnsweredTo (Some Phase.MessageOut) m next = ⊤
AnsweredTo (Some Phase.MessageIn) m next = AnsweredSays m next
AnsweredTo (Some Phase.Command) m next = ⊥
AnsweredTo (Some Phase.Status) m next = ⊤
AnsweredTo (Some Phase.DataIn) m next = ⊥
AnsweredTo (Some Phase.DataOut) m next = ⊥

abbrev pub LeadsAnswered : Leaving → Type 0
LeadsAnswered l = AnsweredTo l.to l.messages l.next

-- ---- of one that has not arrived

abbrev pub NewSays : Next → Type 0
NewSays Next.Command = ⊤
NewSays _ = ⊥

abbrev pub NewTo : Option Phase → Next → Type 0
NewTo None next = ⊤
NewTo (Some Phase.MessageOut) next = ⊤
NewTo (Some Phase.MessageIn) next = NewSays next
NewTo (Some Phase.Command) next = ⊤
NewTo (Some Phase.Status) next = ⊥
NewTo (Some Phase.DataIn) next = ⊥
NewTo (Some Phase.DataOut) next = ⊥

abbrev pub LeadsNew : Leaving → Type 0
LeadsNew l = NewTo l.to l.next

-- ---- parts of a leaving

tasks : (q : Leaving → Type 0) (task : Option Task) (f : Task → Leaving) → q bus_free → ((t : Task) → q (f t))
    → q (with_task task f)
tasks q None f free h = free
tasks q (Some t) f free h = h t

recovers : (q : Leaving → Type 0) (def : Option TargetDef) (t : Task) (again over : Leaving) → q again
    → q (record again { counts = true }) → q over → q (recovery def t again over)
recovers q def t again over h e g = go t.in_hold (nat_lt t.recoveries (recovery_limit def))
  where
    go : (r z : Bool) → q (if r then again else if z then record again { counts = true } else over)
    go true z = h
    go false true = e
    go false false = g

-- ---- data phases

-- One outside the queue has one run at most.
abbrev pub HasOneRun : Bool → Serving → Type 0
HasOneRun outside v =
    outside ≡ true → (t : Task) → v.task ≡ Some t → nat_lt (t.runs + 1) (runs_in_all (policy_of v.def) t) ≡ false

inside : (outside : Bool) (v : Serving) (t : Task) → HasOneRun outside v → ways.DoneRun v t true → outside ≡ false
inside true v t one r = wrong (sym r.more_is ∙ one refl t r.task_is)
inside false v t one r = refl

given : (outside : Bool) (v : Serving) {atn : Bool} {l : Leaving} → ways.Leaves v atn Phase.DataIn l
    → HasOneRun outside v → LeadsRunning outside l
given outside v (ways.restores _ _ _ f) one = elim f [ ]
given outside v (ways.saves _ t _ r _) one = (inside outside v t one r, record { first = refl; second = refl })
given outside v (ways.disconnects _ t _ r _) one = (inside outside v t one r, record { first = refl; second = refl })
given outside v _ one = tt

pub from_data_in : (outside : Bool) (v : Serving) (atn : Bool) → HasOneRun outside v
    → LeadsRunning outside (phase_leaving v atn Phase.DataIn)
from_data_in outside v atn = given outside v (ways.leaves v atn Phase.DataIn)

sent : (outside : Bool) (v : Serving) {atn : Bool} {l : Leaving} → ways.Leaves v atn Phase.DataOut l
    → HasOneRun outside v → LeadsRunning outside l
sent outside v (ways.restores _ _ _ (ways.data_out _)) one = tt
sent outside v (ways.saves _ t _ r _) one = (inside outside v t one r, record { first = refl; second = refl })
sent outside v (ways.disconnects _ t _ r _) one = (inside outside v t one r, record { first = refl; second = refl })
sent outside v _ one = tt

pub from_data_out : (outside : Bool) (v : Serving) (atn : Bool) → HasOneRun outside v
    → LeadsRunning outside (phase_leaving v atn Phase.DataOut)
from_data_out outside v atn = sent outside v (ways.leaves v atn Phase.DataOut)

-- ---- STATUS

pub from_status : (v : Serving) (atn : Bool) → LeadsAnswered (phase_leaving v atn Phase.Status)
from_status v true = tt
from_status v false = refl

-- ---- MESSAGE IN

data_next : (outside : Bool) (policy : Policy) (t : Task)
    → LeadsRunning outside (phase_entry (next_data_phase policy t t.runs))
data_next outside policy t = go t.replied (nat_lt t.runs (runs_in_all policy t)) t.writes
  where
    go : (r z w : Bool)
        → LeadsRunning outside
        (phase_entry
        (if r then Phase.Status else if z then (if w then Phase.DataOut else Phase.DataIn) else Phase.Status))
    go true z w = tt
    go false true true = tt
    go false true false = tt
    go false false w = tt

pub from_go_on : (outside : Bool) (v : Serving) (atn : Bool)
    → LeadsRunning outside (if atn then phase_entry Phase.MessageOut else after_messages v Next.GoOn)
from_go_on outside v true = tt
from_go_on outside v false =
    tasks (LeadsRunning outside) v.task (λ t. phase_entry (next_data_phase (policy_of v.def) t t.runs)) tt
    (λ t. data_next outside (policy_of v.def) t)

pub from_status_next : (v : Serving) (atn : Bool)
    → LeadsAnswered (if atn then phase_entry Phase.MessageOut else after_messages v Next.Status)
from_status_next v true = tt
from_status_next v false = tt

pub from_command_next : (v : Serving) (atn : Bool)
    → LeadsNew (if atn then phase_entry Phase.MessageOut else after_messages v Next.Command)
from_command_next v true = tt
from_command_next v false = tt

-- ---- MESSAGE OUT

pub from_opening : (v : Serving) → LeadsNew (message_out_leaving v Cause.Selected)
from_opening v = go (is_some v.plan.said.aborts) v.plan.said.offer v.plan.negotiates
  where
    offers : (o : Option Agreement) (r : Bool) → LeadsNew (after_offer v.def r o)
    offers (Some offer) r = tt
    offers None true = elim (request_by v.def) as (λ m. LeadsNew (request_or_command m)) [ None ↦ tt | Some m ↦ tt ]
    offers None false = tt

    go : (q : Bool) (o : Option Agreement) (r : Bool) → LeadsNew (if q then bus_free else after_offer v.def r o)
    go true o r = tt
    go false o r = offers o r

pub from_detected : (outside : Bool) (v : Serving) → LeadsRunning outside (message_out_leaving v Cause.InData)
from_detected outside v =
    tasks (LeadsRunning outside) v.task
    (λ t. recovery v.def t (pointer_restoration Next.GoOn) (phase_entry Phase.Status)) tt
    (λ t. recovers (LeadsRunning outside) v.def t (pointer_restoration Next.GoOn) (phase_entry Phase.Status) tt tt tt)

pub from_status_detected : (v : Serving) → LeadsAnswered (message_out_leaving v Cause.InStatus)
from_status_detected v =
    tasks LeadsAnswered v.task (λ t. recovery v.def t (pointer_restoration Next.Status) bus_free) tt
    (λ t. recovers LeadsAnswered v.def t (pointer_restoration Next.Status) bus_free tt tt tt)

-- MESSAGE PARITY ERROR: the messages are said again, or the bus is left; the answer to a request: COMMAND follows.
pub data Repeats (v : Serving) (l : Leaving) : Type 0 where
  commands : is_some v.plan.said.offer ≡ true → l ≡ phase_entry Phase.Command → Repeats v l
  again : l.to ≡ Some Phase.MessageIn → l.messages ≡ v.plan.messages → l.next ≡ v.plan.next → Repeats v l
  leaves : l.to ≡ None → Repeats v l

pub from_refusal : (v : Serving) → Repeats v (message_out_leaving v Cause.InMessage)
from_refusal v = go (is_some v.plan.said.offer) refl (is_naming v.plan.messages.first)
  where
    go : (q : Bool) → is_some v.plan.said.offer ≡ q → (r : Bool)
        → Repeats v (if q then phase_entry Phase.Command else if r then message_repetition v.plan
        else with_task v.task (λ t. recovery v.def t (message_repetition v.plan) bus_free))
    go true e r = commands e refl
    go false e true = again refl refl refl
    go false e false =
        tasks (Repeats v) v.task (λ t. recovery v.def t (message_repetition v.plan) bus_free) (leaves refl)
        (λ t. recovers (Repeats v) v.def t (message_repetition v.plan) bus_free (again refl refl refl)
        (again refl refl refl) (leaves refl))

-- ---- COMMAND

-- Struck: the pointers are restored and COMMAND comes again, or the command fails.
pub data LeavesStruck (l : Leaving) : Type 0 where
  restores : l.to ≡ Some Phase.MessageIn → l.next ≡ Next.Command → LeavesStruck l
  fails : l.to ≡ Some Phase.Status → LeavesStruck l
  frees : l.to ≡ None → LeavesStruck l

pub from_struck_command : (v : Serving) (atn : Bool) → v.plan.struck ≡ true
    → LeavesStruck (phase_leaving v atn Phase.Command)
from_struck_command v atn e = go v.plan.struck e
  where
    go : (q : Bool) → q ≡ true → LeavesStruck
        (with_task v.task (λ t. if q then recovery v.def t (pointer_restoration Next.Command) (phase_entry Phase.Status)
        else after_arrival v.def t v.arrival))
    go true f =
        tasks LeavesStruck v.task
        (λ t. recovery v.def t (pointer_restoration Next.Command) (phase_entry Phase.Status)) (frees refl)
        (λ t. recovers LeavesStruck v.def t (pointer_restoration Next.Command) (phase_entry Phase.Status)
        (restores refl refl) (restores refl refl) (fails refl))
    go false f = wrong (sym f)

-- Unstruck: it is refused, or goes on, or is disconnected.
abbrev pub ArrivedTo : Arrival → Leaving → Type 0
ArrivedTo Arrival.Refused l = l.to ≡ Some Phase.Status
ArrivedTo Arrival.Guest l = LeadsRunning true l
ArrivedTo Arrival.AtOnce l = LeadsRunning false l
ArrivedTo Arrival.Queued l = (l.to ≡ Some Phase.MessageIn) × (l.next ≡ Next.FreeBus) × TellNoEnd l.messages

pub from_command : (v : Serving) (atn : Bool) → v.plan.struck ≡ false
    → (v.task ≡ None) ⊎ ArrivedTo v.arrival (phase_leaving v atn Phase.Command)
from_command v atn e = go v.plan.struck e v.task
  where
    arrived : (t : Task) (a : Arrival) → ArrivedTo a (after_arrival v.def t a)
    arrived t Arrival.Refused = refl
    arrived t Arrival.Guest = data_next true (policy_of v.def) t
    arrived t Arrival.AtOnce = data_next false (policy_of v.def) t
    arrived t Arrival.Queued = (refl, refl, record { first = refl; second = refl })

    go : (q : Bool) → q ≡ false → (o : Option Task) → (o ≡ None) ⊎ ArrivedTo v.arrival
        (with_task o (λ t. if q then recovery v.def t (pointer_restoration Next.Command) (phase_entry Phase.Status)
        else after_arrival v.def t v.arrival))
    go true f o = wrong f
    go false f None = inl refl
    go false f (Some t) = inr (arrived t v.arrival)
