-- As another phase follows the plain disk array permits the events of the process that is served, and it stands where
-- the phase says (6.1.5, 6.1.6, 6.6).
use Rattle.trace_laws.proofs
use proofs.Names.{inl, inr, ℕ, ◌≡◌, ◌⊎◌, Bool, true, false, not, ◌&&◌, ◌∙◌, List, [], ◌∷◌, length, Option, Some, None}
use proofs.Names.{refl, sym, ap, subst, true≢false, same_Some, ◌-◌, if◌then◌else◌, is_some, nat_lt, wrong, wrong'}
use proofs.Names.{Event, ProcId, Handshakes, MsgIn, ScenarioValue, reply_in, Process, process_of, IsSound, HasSeats}
use proofs.Names.{Array, status_event, from_byte, message_bytes, one_message, Serving, phase_entry, message_out_leaving}
use proofs.Names.{after_messages, phase_leaving, Cause, Leaving, Messages, Next, Phase, Plan, none_some, is_out_next}
use proofs.Names.{is_status, rests_in_queue, AreWithin, IsUntouched, IsAtRest, IsOutside, RunsOpen, AnsweredOpen}
use proofs.Names.{TellNoEnd, Closes, completes, disconnects, PlacedBefore, PlacedAsked, PlacedIn, attended}
use proofs.Places.{Events.{Turned, turned_none, turned_reply}, Leavings.{RunningSays, RunningTo, LeadsRunning}}
use proofs.Places.Leavings.{AnsweredSays, AnsweredTo, LeadsAnswered, NewSays, NewTo, LeadsNew, HasOneRun, from_data_in}
use proofs.Places.Leavings.{from_data_out, from_status, from_go_on, from_status_next, from_command_next, from_opening}
use proofs.Places.Leavings.{from_detected, from_status_detected, Repeats, commands, again, leaves, from_refusal}
use Rattle.story_laws.specs.link_laws.proofs.LeavingWays as ways

-- ---- where it stands as the next phase begins

-- MESSAGE OUT follows: of MESSAGE IN, so many bytes of which have crossed, the messages that were refused are left.
abbrev pub OutOf : Array → Process → Plan → ℕ → Phase → Type 0
OutOf a c plan count Phase.MessageIn = PlacedBefore a c (from_byte plan.messages (count - 1)) plan.next
OutOf a c plan count Phase.DataIn = RunsOpen a c
OutOf a c plan count Phase.DataOut = RunsOpen a c
OutOf a c plan count Phase.Status = AnsweredOpen a c.id
OutOf a c plan count Phase.MessageOut = ⊥
OutOf a c plan count Phase.Command = ⊥

abbrev pub PlacedNext : Array → Process → Leaving → Type 0 → Phase → Type 0
PlacedNext b c l out Phase.MessageOut = out
PlacedNext b c l out Phase.MessageIn = PlacedBefore b c l.messages l.next
PlacedNext b c l out Phase.Command = IsUntouched b c.id
PlacedNext b c l out Phase.Status = AnsweredOpen b c.id
PlacedNext b c l out Phase.DataIn = RunsOpen b c
PlacedNext b c l out Phase.DataOut = RunsOpen b c

-- ---- what is known of the array and the process

pub record Standing (s : ScenarioValue) (a : Array) (c : Process) : Type 0 where
  pub seats : HasSeats s
  pub sound : IsSound s a
  pub within : AreWithin a.units
  pub process_is : process_of s c.id ≡ Some c

-- The event that a turn to this phase shows, where COMMAND is not left: `marked` says whether a reply was shown.
abbrev pub reply_shown : ProcId → Option ℕ → Bool → Phase → List Event
reply_shown id failure marked phase = if is_status phase && not marked then status_event id failure ∷ [] else []

abbrev Turns : ScenarioValue → Array → Process → Option ℕ → Bool → Leaving → (Array → Type 0) → Phase → Type 0
Turns s a c failure marked l out phase =
    Turned s a c.id (reply_shown c.id failure marked phase) (λ b. PlacedNext b c l (out b) phase)

pub none_shown : (s : ScenarioValue) (a : Array) (c : Process) (q : Array → Type 0) → Standing s a c → q a
    → Turned s a c.id [] q
none_shown s a c q st h = turned_none s a c.id q st.sound st.within h

-- ---- from a process that runs

says_running : (a : Array) (c : Process) (outside : Bool) (m : Messages) (next : Next) → RunsOpen a c
    → (outside ≡ false → IsAtRest a c.id) → RunningSays outside m next → PlacedBefore a c m next
says_running a c outside m Next.GoOn h rest e = h
says_running a c outside m Next.FreeBus h rest e =
    disconnects e.1 (rest e.0) h.open_is (rests_in_queue a c h.runs.running_is (rest e.0))
says_running a c outside m Next.Command h rest e = absurd e
says_running a c outside m Next.Status h rest e = absurd e

pub running_turn : (s : ScenarioValue) (a : Array) (c : Process) (failure : Option ℕ)
    (marked : Bool) (l : Leaving) (out : Array → Type 0) (outside : Bool) (phase : Phase)
    → Standing s a c → RunsOpen a c → (outside ≡ false → IsAtRest a c.id) → LeadsRunning outside l → l.to ≡ Some phase
    → marked ≡ false → (phase ≡ Phase.MessageOut → out a) → Turns s a c failure marked l out phase
running_turn s a c failure marked l out outside phase st h rest lead to mark asked = go phase to asked
  where
    leads : (x : Phase) → l.to ≡ Some x → RunningTo outside (Some x) l.messages l.next
    leads x e = subst (λ (o : Option Phase). RunningTo outside o l.messages l.next) e lead

    go : (x : Phase) → l.to ≡ Some x → (x ≡ Phase.MessageOut → out a) → Turns s a c failure marked l out x
    go Phase.MessageOut e f = none_shown s a c (λ b. PlacedNext b c l (out b) Phase.MessageOut) st (f refl)
    go Phase.MessageIn e f = none_shown s a c (λ b. PlacedNext b c l (out b) Phase.MessageIn) st
        (says_running a c outside l.messages l.next h rest (leads Phase.MessageIn e))
    go Phase.Command e f = absurd (leads Phase.Command e)
    go Phase.Status e f = subst (λ (x : Bool). Turned s a c.id
        (if true && not x then status_event c.id failure ∷ [] else []) (λ b. PlacedNext b c l (out b) Phase.Status))
        (sym mark) (turned_reply s a c failure st.seats st.sound st.within st.process_is h)
    go Phase.DataIn e f = none_shown s a c (λ b. PlacedNext b c l (out b) Phase.DataIn) st h
    go Phase.DataOut e f = none_shown s a c (λ b. PlacedNext b c l (out b) Phase.DataOut) st h

-- ---- from one that was answered

says_answered : (a : Array) (c : Process) (m : Messages) (next : Next) → AnsweredOpen a c.id → AnsweredSays m next
    → PlacedBefore a c m next
says_answered a c m Next.Status h e = h
says_answered a c m Next.FreeBus h e = completes e h
says_answered a c m Next.Command h e = absurd e
says_answered a c m Next.GoOn h e = absurd e

answered_turn : (s : ScenarioValue) (a : Array) (c : Process) (failure : Option ℕ) (marked : Bool) (l : Leaving)
    (out : Array → Type 0) (phase : Phase) → Standing s a c → AnsweredOpen a c.id → LeadsAnswered l → l.to ≡ Some phase
    → marked ≡ true → (phase ≡ Phase.MessageOut → out a) → Turns s a c failure marked l out phase
answered_turn s a c failure marked l out phase st h lead to mark asked = go phase to asked
  where
    leads : (x : Phase) → l.to ≡ Some x → AnsweredTo (Some x) l.messages l.next
    leads x e = subst (λ (o : Option Phase). AnsweredTo o l.messages l.next) e lead

    go : (x : Phase) → l.to ≡ Some x → (x ≡ Phase.MessageOut → out a) → Turns s a c failure marked l out x
    go Phase.MessageOut e f = none_shown s a c (λ b. PlacedNext b c l (out b) Phase.MessageOut) st (f refl)
    go Phase.MessageIn e f = none_shown s a c (λ b. PlacedNext b c l (out b) Phase.MessageIn) st
        (says_answered a c l.messages l.next h (leads Phase.MessageIn e))
    go Phase.Command e f = absurd (leads Phase.Command e)
    go Phase.Status e f = subst (λ (x : Bool). Turned s a c.id
        (if true && not x then status_event c.id failure ∷ [] else []) (λ b. PlacedNext b c l (out b) Phase.Status))
        (sym mark) (none_shown s a c (λ b. PlacedNext b c l (out b) Phase.Status) st h)
    go Phase.DataIn e f = absurd (leads Phase.DataIn e)
    go Phase.DataOut e f = absurd (leads Phase.DataOut e)

-- ---- from one that has not arrived

says_new : (a : Array) (c : Process) (m : Messages) (next : Next) → IsUntouched a c.id → NewSays next
    → PlacedBefore a c m next
says_new a c m Next.Command h e = h
says_new a c m _ h e = absurd e

new_turn : (s : ScenarioValue) (a : Array) (c : Process) (failure : Option ℕ) (marked : Bool) (l : Leaving)
    (out : Array → Type 0) (phase : Phase) → Standing s a c → IsUntouched a c.id → LeadsNew l → l.to ≡ Some phase
    → (phase ≡ Phase.MessageOut → out a) → Turns s a c failure marked l out phase
new_turn s a c failure marked l out phase st h lead to asked = go phase to asked
  where
    leads : (x : Phase) → l.to ≡ Some x → NewTo (Some x) l.next
    leads x e = subst (λ (o : Option Phase). NewTo o l.next) e lead

    go : (x : Phase) → l.to ≡ Some x → (x ≡ Phase.MessageOut → out a) → Turns s a c failure marked l out x
    go Phase.MessageOut e f = none_shown s a c (λ b. PlacedNext b c l (out b) Phase.MessageOut) st (f refl)
    go Phase.MessageIn e f = none_shown s a c (λ b. PlacedNext b c l (out b) Phase.MessageIn) st
        (says_new a c l.messages l.next h (leads Phase.MessageIn e))
    go Phase.Command e f = none_shown s a c (λ b. PlacedNext b c l (out b) Phase.Command) st h
    go Phase.Status e f = absurd (leads Phase.Status e)
    go Phase.DataIn e f = absurd (leads Phase.DataIn e)
    go Phase.DataOut e f = absurd (leads Phase.DataOut e)

-- ---- MESSAGE OUT does not follow COMMAND

pub command_not_out : (v : Serving) (atn : Bool) → (phase_leaving v atn Phase.Command).to ≡ Some Phase.MessageOut → ⊥
command_not_out v atn e = wrong' (attended (ways.leaves v atn Phase.Command) (ap is_out_next e)).1

-- ---- messages that are left

left_closes : (a : Array) (c : Process) (m : Messages) (l : ℕ)
    → (m ≡ one_message MsgIn.CommandComplete → l ≡ 0) → Closes a c m → Closes a c (from_byte m l)
left_closes a c m l few (completes e h) = completes ((λ i. from_byte (e i) (few e i))) h
left_closes a c m l few (disconnects e h o q) = disconnects (go (nat_lt l (length (message_bytes m.first)))) h o q
  where
    go : (q : Bool) → TellNoEnd (if q then m else record { first = m.second; second = None })
    go true = e
    go false = record { first = e.second; second = refl }

-- ---- a phase other than COMMAND is left

-- What is asked as it is left.
pub record IsLeft (a : Array) (c : Process) (v : Serving) (count : ℕ) (phase : Phase) : Type 0 where
  pub one_run : IsOutside a c → HasOneRun true v
  pub few : phase ≡ Phase.MessageIn → v.plan.messages ≡ one_message MsgIn.CommandComplete → count - 1 ≡ 0
  pub offers : phase ≡ Phase.MessageOut → v.plan.cause ≡ Cause.InMessage → is_some v.plan.said.offer ≡ true
      → v.plan.next ≡ Next.Command

marked_by : (a : Array) (id : ProcId) (marked : Bool) → is_some (reply_in a.replies id) ≡ marked
    → reply_in a.replies id ≡ None → marked ≡ false
marked_by a id marked e f = sym e ∙ ap is_some f

-- A process that runs, by whether it stands outside the queue.
by_kind : (s : ScenarioValue) (a : Array) (c : Process) (failure : Option ℕ) (marked : Bool) (l : Leaving)
    (out : Array → Type 0) (phase : Phase) → Standing s a c → RunsOpen a c → is_some (reply_in a.replies c.id) ≡ marked
    → ((outside : Bool) → (outside ≡ true → IsOutside a c) → LeadsRunning outside l) → l.to ≡ Some phase
    → (phase ≡ Phase.MessageOut → out a) → Turns s a c failure marked l out phase
by_kind s a c failure marked l out phase st h mark lead to asked = go h.runs.kind
  where
    unmarked : marked ≡ false
    unmarked = marked_by a c.id marked mark h.runs.reply

    go : IsOutside a c ⊎ IsAtRest a c.id → Turns s a c failure marked l out phase
    go (inl k) =
        running_turn s a c failure marked l out true phase st h (λ z. wrong z) (lead true (λ z. k)) to unmarked asked
    go (inr k) =
        running_turn s a c failure marked l out false phase st h (λ z. k) (lead false (λ z. wrong' z)) to unmarked asked

one_run_by : (a : Array) (c : Process) (v : Serving)
    → (IsOutside a c → HasOneRun true v) → (outside : Bool) → (outside ≡ true → IsOutside a c) → HasOneRun outside v
one_run_by a c v one true f = one (f refl)
one_run_by a c v one false f = λ z. wrong' z

answered_mark : (a : Array) (id : ProcId) (marked : Bool) → is_some (reply_in a.replies id) ≡ marked → AnsweredOpen a id
    → marked ≡ true
answered_mark a id marked e h = sym e ∙ ap is_some h.answered.given

-- MESSAGE IN is left.
from_in : (s : ScenarioValue) (a : Array) (c : Process) (v : Serving) (atn : Bool) (count : ℕ) (failure : Option ℕ)
    (marked : Bool) (phase : Phase) (next : Next) → Standing s a c → is_some (reply_in a.replies c.id) ≡ marked
    → (v.plan.messages ≡ one_message MsgIn.CommandComplete → count - 1 ≡ 0) → PlacedBefore a c v.plan.messages next
    → (if atn then phase_entry Phase.MessageOut else after_messages v next).to ≡ Some phase
    → Turns s a c failure marked (if atn then phase_entry Phase.MessageOut else after_messages v next)
    (λ b. PlacedBefore b c (from_byte v.plan.messages (count - 1)) next) phase
from_in s a c v atn count failure marked phase Next.Command st mark few h to = new_turn s a c failure marked
    (if atn then phase_entry Phase.MessageOut else after_messages v Next.Command)
    (λ b. PlacedBefore b c (from_byte v.plan.messages (count - 1)) Next.Command) phase st h (from_command_next v atn) to
    (λ z. h)
from_in s a c v atn count failure marked phase Next.GoOn st mark few h to = by_kind s a c failure marked
    (if atn then phase_entry Phase.MessageOut else after_messages v Next.GoOn)
    (λ b. PlacedBefore b c (from_byte v.plan.messages (count - 1)) Next.GoOn) phase st h mark
    (λ outside f. from_go_on outside v atn) to (λ z. h)
from_in s a c v atn count failure marked phase Next.Status st mark few h to = answered_turn s a c failure marked
    (if atn then phase_entry Phase.MessageOut else after_messages v Next.Status)
    (λ b. PlacedBefore b c (from_byte v.plan.messages (count - 1)) Next.Status) phase st h (from_status_next v atn) to
    (answered_mark a c.id marked mark h) (λ z. h)
from_in s a c v true count failure marked phase Next.FreeBus st mark few h to =
    let is : Phase.MessageOut ≡ phase = same_Some Phase.MessageOut phase to in
    subst (λ (x : Phase). Turns s a c failure marked (phase_entry Phase.MessageOut)
    (λ b. Closes b c (from_byte v.plan.messages (count - 1))) x) is (none_shown s a c
    (λ b. Closes b c (from_byte v.plan.messages (count - 1))) st (left_closes a c v.plan.messages (count - 1) few h))
from_in s a c v false count failure marked phase Next.FreeBus st mark few h to = none_some phase to

-- MESSAGE OUT is left.
never_out : {v : Serving} {l : Leaving} → ways.Leaves v false Phase.MessageOut l → is_out_next l.to ≡ false
never_out (ways.attended _ i _) = elim i [ ]
never_out _ = refl

not_out : (l : Leaving) (phase : Phase) → is_out_next l.to ≡ false → l.to ≡ Some phase → phase ≡ Phase.MessageOut → ⊥
not_out l phase h e f = true≢false (sym (ap is_out_next (e ∙ ap (λ (x : Phase). Some x) f)) ∙ h)

abbrev with_cause : Serving → Cause → Serving
with_cause v cause = record v { plan = record v.plan { cause = cause } }

from_out : (s : ScenarioValue) (a : Array) (c : Process) (v : Serving) (failure : Option ℕ) (marked : Bool)
    (phase : Phase) (cause : Cause) → Standing s a c → is_some (reply_in a.replies c.id) ≡ marked
    → (cause ≡ Cause.InMessage → is_some v.plan.said.offer ≡ true → v.plan.next ≡ Next.Command)
    → PlacedAsked a c v.plan cause → (message_out_leaving v cause).to ≡ Some phase
    → Turns s a c failure marked (message_out_leaving v cause) (λ b. ⊥) phase
from_out s a c v failure marked phase Cause.Selected st mark offers h to =
    new_turn s a c failure marked (message_out_leaving v Cause.Selected) (λ b. ⊥) phase st h (from_opening v) to
    (not_out (message_out_leaving v Cause.Selected) phase
    (never_out (ways.leaves (with_cause v Cause.Selected) false Phase.MessageOut)) to)
from_out s a c v failure marked phase Cause.InData st mark offers h to =
    by_kind s a c failure marked (message_out_leaving v Cause.InData) (λ b. ⊥) phase st h mark
    (λ outside f. from_detected outside v) to
    (not_out (message_out_leaving v Cause.InData) phase
    (never_out (ways.leaves (with_cause v Cause.InData) false Phase.MessageOut)) to)
from_out s a c v failure marked phase Cause.InStatus st mark offers h to =
    answered_turn s a c failure marked (message_out_leaving v Cause.InStatus) (λ b. ⊥) phase st h
    (from_status_detected v) to (answered_mark a c.id marked mark h)
    (not_out (message_out_leaving v Cause.InStatus) phase
    (never_out (ways.leaves (with_cause v Cause.InStatus) false Phase.MessageOut)) to)
from_out s a c v failure marked phase Cause.InMessage st mark offers h to = go (from_refusal v)
  where
    l : Leaving
    l = message_out_leaving v Cause.InMessage

    go : Repeats v l → Turns s a c failure marked l (λ b. ⊥) phase
    go (commands e f) =
        let is : Phase.Command ≡ phase = same_Some Phase.Command phase (sym (ap (λ (x : Leaving). x.to) f) ∙ to) in
        subst (λ (x : Phase). Turns s a c failure marked l (λ b. ⊥) x) is (none_shown s a c (λ b. IsUntouched b c.id) st
        (subst (λ (x : Next). PlacedBefore a c v.plan.messages x) (offers refl e) h))
    go (again e f g) =
        let is : Phase.MessageIn ≡ phase = same_Some Phase.MessageIn phase (sym e ∙ to) in
        subst (λ (x : Phase). Turns s a c failure marked l (λ b. ⊥) x) is (none_shown s a c
        (λ b. PlacedBefore b c l.messages l.next) st (subst (λ (x : Messages). PlacedBefore a c x l.next) (sym f)
        (subst (λ (x : Next). PlacedBefore a c v.plan.messages x) (sym g) h)))
    go (leaves e) = none_some phase (sym e ∙ to)

pub turns : (s : ScenarioValue) (a : Array) (c : Process) (v : Serving) (atn : Bool)
    (h : Handshakes) (failure : Option ℕ) (marked : Bool) (phase after : Phase)
    → Standing s a c → is_some (reply_in a.replies c.id) ≡ marked → IsLeft a c v h.requests phase
    → (phase ≡ Phase.Command → ⊥) → PlacedIn a c v.plan h atn phase → (phase_leaving v atn phase).to ≡ Some after
    → Turns s a c failure marked (phase_leaving v atn phase) (λ b. OutOf b c v.plan h.requests phase) after
turns s a c v atn h failure marked Phase.MessageOut after st mark left other place to =
    from_out s a c v failure marked after v.plan.cause st mark (left.offers refl) place to
turns s a c v atn h failure marked Phase.MessageIn after st mark left other (inl place) to =
    from_in s a c v atn h.requests failure marked after v.plan.next st mark (left.few refl) place to
turns s a c v atn h failure marked Phase.MessageIn after st mark left other (inr taken) to = none_some after
    (sym (ap (λ (q : Bool). (if q then phase_entry Phase.MessageOut else after_messages v v.plan.next).to) taken.attends
    ∙ ap (λ (x : Next). (after_messages v x).to) taken.next_is) ∙ to)
turns s a c v atn h failure marked Phase.Command after st mark left other place to = absurd (other refl)
turns s a c v atn h failure marked Phase.Status after st mark left other place to = answered_turn s a c failure marked
    (phase_leaving v atn Phase.Status) (λ b. OutOf b c v.plan h.requests Phase.Status) after st place
    (from_status v atn) to (answered_mark a c.id marked mark place) (λ z. place)
turns s a c v atn h failure marked Phase.DataIn after st mark left other place to = by_kind s a c failure marked
    (phase_leaving v atn Phase.DataIn) (λ b. OutOf b c v.plan h.requests Phase.DataIn) after st place mark
    (λ outside f. from_data_in outside v atn (one_run_by a c v left.one_run outside f)) to (λ z. place)
turns s a c v atn h failure marked Phase.DataOut after st mark left other place to = by_kind s a c failure marked
    (phase_leaving v atn Phase.DataOut) (λ b. OutOf b c v.plan h.requests Phase.DataOut) after st place mark
    (λ outside f. from_data_out outside v atn (one_run_by a c v left.one_run outside f)) to (λ z. place)
