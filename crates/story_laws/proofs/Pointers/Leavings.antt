-- A phase is left: where the data pointers stand as the next one begins.
use Rattle.story_laws.proofs
use proofs.Names.{ℕ, ◌≡◌, ◌⊎◌, inl, inr, ◌+◌, ◌*◌, Bool, true, false, ◌∙◌, Option, Some, None, refl, sym, ap, subst}
use proofs.Names.{arith, true≢false, ◌==◌, nat_tests, same_Some, if◌then◌else◌, is_some, nat_lt, ⊤, is_none, wrong}
use proofs.Names.{wrong', plus_none, Handshakes, MsgIn, Policy, CarriedBytes, Link, plain, policy_of, is_never}
use proofs.Names.{runs_in_all, one_message, no_messages, two_messages, Serving, bus_free, phase_entry, message_in_entry}
use proofs.Names.{with_task, recovery, recovery_limit, message_repetition, message_out_leaving, disconnect_messages}
use proofs.Names.{phase_leaving, one_if, is_naming, target_answer, Arrival, Cause, Leaving, Messages, Next, Phase, Plan}
use proofs.Names.{Task, OnMessages, IsNoName, none_some, IsAt, OnUndo, IsUndisturbed, PointersIn, calm, restores, saves}
use proofs.Names.{saved, closes, PointersRefused, still_calm, restores_again, saves_again, disconnects_again}
use proofs.Names.{closes_again, IsSettled, IsInRun, PointersAsked, PointersOf, disconnects}
use Rattle.row_laws.specs.DataPointers.{IsClosing}
use Rattle.row_laws.specs.link_laws.proofs.LeavingWays as ways

-- ---- what the target leaves a phase for

-- More runs follow: each begins where that before it ends, or all begin with the first byte.
pub data MoreRuns (policy : Policy) (made step count : ℕ) : Type 0 where
  in_bursts : (most : ℕ) → policy ≡ Policy.Burst most → made * step + count ≡ (made + 1) * step
      → MoreRuns policy made step count
  from_start : (most : ℕ) → policy ≡ Policy.NoSave most → step ≡ 0 → MoreRuns policy made step count

-- What is known of a process, whose data are cut into runs by this policy, as a phase is left.
pub record MovesBy (policy : Policy) (v : Serving) (h : Handshakes) (t : Task) (step : ℕ) (phase : Phase) : Type 0 where
  pub task_is : v.task ≡ Some t
  pub at_once : v.arrival ≡ Arrival.AtOnce → is_never policy ≡ true
  pub guest : v.arrival ≡ Arrival.Guest → (is_never policy ≡ true) ⊎ (runs_in_all (policy_of v.def) t ≡ 0)
  pub cut : nat_lt (t.runs + 1) (runs_in_all (policy_of v.def) t) ≡ true → policy ≡ policy_of v.def
  pub sent : phase ≡ Phase.DataOut → v.plan.struck ≡ false
      → nat_lt (t.runs + 1) (runs_in_all (policy_of v.def) t) ≡ true → MoreRuns (policy_of v.def) t.runs step h.answers
  pub given : phase ≡ Phase.DataIn → nat_lt (t.runs + 1) (runs_in_all (policy_of v.def) t) ≡ true
      → MoreRuns (policy_of v.def) t.runs step h.requests

-- STATUS marks the process. MESSAGE OUT is entered where ATN is true after bytes to the initiator.
abbrev pub Enters : Policy → Link → CarriedBytes → ℕ → Messages → Next → Option Phase → Type 0
Enters policy l c start m next None = ⊤
Enters policy l c start m next (Some Phase.Command) = IsSettled l c start
Enters policy l c start m next (Some Phase.DataOut) = IsInRun policy l c 0 start
Enters policy l c start m next (Some Phase.DataIn) = IsInRun policy l c 0 start
Enters policy l c start m next (Some Phase.Status) = ⊤
Enters policy l c start m next (Some Phase.MessageIn) = PointersIn policy l c m next 0 start
Enters policy l c start m next (Some Phase.MessageOut) = ⊥

abbrev pub EntersBy : Policy → Link → CarriedBytes → (made step : ℕ) → Leaving → Type 0
EntersBy policy l c made step x = Enters policy l c ((made + one_if x.done) * step) x.messages x.next x.to

-- ---- the parts

more_none : (made step : ℕ) → (made + 0) * step ≡ made * step
more_none made step = ap (λ (x : ℕ). x * step) (plus_none made)

same_start :
    (policy : Policy) (l : Link) (c : CarriedBytes) (made step : ℕ) (m : Messages) (next : Next) (to : Option Phase)
    → Enters policy l c (made * step) m next to → Enters policy l c ((made + 0) * step) m next to
same_start policy l c made step m next to h =
    subst (λ (x : ℕ). Enters policy l c x m next to) (sym (more_none made step)) h

settled_run : (policy : Policy) (l : Link) (c : CarriedBytes) (start : ℕ) → IsUndisturbed policy l → IsAt c.moved start
    → IsInRun policy l c 0 start
settled_run policy l c start u h = record { plain = u; active = h.active ∙ none start; saved = h.saved }
  where
    none : (m : ℕ) → m ≡ m + 0
    none m = omega arith

-- ---- by the phase

nameless_calm : (policy : Policy) (l : Link) (c : CarriedBytes) (m : Messages) (next : Next) (start : ℕ)
    → (next ≡ Next.GoOn → ⊥) → OnMessages IsNoName m → IsSettled l c start → PointersIn policy l c m next 0 start
nameless_calm policy l c m next start f o h = calm (record { here = h.here; undone = h.undone; plain = inr (f, o) })

command_on : Next.Command ≡ Next.GoOn → ⊥
command_on e = absurd cc

free_on : Next.FreeBus ≡ Next.GoOn → ⊥
free_on e = absurd cc

said : (policy : Policy) (l : Link) (c : CarriedBytes) (made step : ℕ) (m : MsgIn) (next : Next)
    → (next ≡ Next.GoOn → ⊥) → IsNoName m → IsSettled l c (made * step)
    → EntersBy policy l c made step (message_in_entry (one_message m) next)
said policy l c made step m next on e h =
    same_start policy l c made step (one_message m) next (Some Phase.MessageIn)
    (nameless_calm policy l c (one_message m) next (made * step) on (e, tt) h)

-- Refused messages come again, or COMMAND follows an answer.
again : (policy : Policy) (l : Link) (c : CarriedBytes) (m : Messages) (next : Next) (start : ℕ)
    → PointersRefused policy l c m next start → PointersIn policy l c m next 0 start
again policy l c m next start (still_calm h) = calm h
again policy l c m next start (restores_again em en u e w) = restores em en u e (inl refl)
again policy l c m next start (saves_again em en u b e w) = saves em en u refl e
again policy l c m next start (disconnects_again em en e w) = disconnects em en e (inl refl)
again policy l c m next start (closes_again em en e w) = closes em en e (inl refl)

closing_command : {A : Type 0} (next : Next) → IsClosing next → next ≡ Next.Command → A
closing_command next (inl z) e = absurd (let bad : Next.Status ≡ Next.Command = sym z ∙ e in cc)
closing_command next (inr z) e = absurd (let bad : Next.FreeBus ≡ Next.Command = sym z ∙ e in cc)

pub on_command : {A : Type 0} → Next.GoOn ≡ Next.Command → A
on_command e = absurd cc

free_command : {A : Type 0} → Next.FreeBus ≡ Next.Command → A
free_command e = absurd cc

refused_settled : (policy : Policy) (l : Link) (c : CarriedBytes) (m : Messages) (next : Next) (start : ℕ)
    → next ≡ Next.Command → PointersRefused policy l c m next start → IsSettled l c start
refused_settled policy l c m next start f (still_calm h) = record { here = h.here; undone = h.undone }
refused_settled policy l c m next start f (restores_again em en u e w) = on_command (sym en ∙ f)
refused_settled policy l c m next start f (saves_again em en u b e w) = free_command (sym en ∙ f)
refused_settled policy l c m next start f (disconnects_again em en e w) = free_command (sym en ∙ f)
refused_settled policy l c m next start f (closes_again em en e w) = closing_command next en f

-- MESSAGE IN, all of which has crossed.
in_settled : (policy : Policy) (l : Link) (c : CarriedBytes) (m : Messages) (next : Next) (count start : ℕ)
    → next ≡ Next.Command → PointersIn policy l c m next count start → IsSettled l c start
in_settled policy l c m next count start f (calm h) = record { here = h.here; undone = h.undone }
in_settled policy l c m next count start f (restores em en u e w) = on_command (sym en ∙ f)
in_settled policy l c m next count start f (saves em en u z e) = free_command (sym en ∙ f)
in_settled policy l c m next count start f (saved em en u b z e w) = free_command (sym en ∙ f)
in_settled policy l c m next count start f (disconnects em en e w) = free_command (sym en ∙ f)
in_settled policy l c m next count start f (closes em en e w) = closing_command next en f

free_go : {A : Type 0} → Next.FreeBus ≡ Next.GoOn → A
free_go e = absurd cc

closing_go : {A : Type 0} (next : Next) → IsClosing next → next ≡ Next.GoOn → A
closing_go next (inl z) e = absurd (let bad : Next.Status ≡ Next.GoOn = sym z ∙ e in cc)
closing_go next (inr z) e = absurd (let bad : Next.FreeBus ≡ Next.GoOn = sym z ∙ e in cc)

in_run : (policy : Policy) (l : Link) (c : CarriedBytes) (m : Messages) (next : Next) (count start : ℕ)
    → (count == 0) ≡ false → next ≡ Next.GoOn → PointersIn policy l c m next count start → IsInRun policy l c 0 start
in_run policy l c m next count start asked f (calm h) =
    elim h.plain [ inl z ↦ settled_run policy l c start z.1 h.here | inr z ↦ absurd (z.0 f) ]
in_run policy l c m next count start asked f (restores em en u e w) = go w
  where
    go : (count ≡ 0) ⊎ ((c.moved.active ≡ start) × OnUndo (λ (u : CarriedBytes). u.moved.saved ≡ start) l.undo)
        → IsInRun policy l c 0 start
    go (inl z) = absurd (true≢false (sym (ap (λ (x : ℕ). x == 0) z) ∙ asked))
    go (inr z) = settled_run policy l c start u (record { active = z.0; saved = e })
in_run policy l c m next count start asked f (saves em en u z e) = free_go (sym en ∙ f)
in_run policy l c m next count start asked f (saved em en u b z e w) = free_go (sym en ∙ f)
in_run policy l c m next count start asked f (disconnects em en e w) = free_go (sym en ∙ f)
in_run policy l c m next count start asked f (closes em en e w) = closing_go next en f

no_less : (i m : ℕ) → m ≡ 0 → nat_lt i m ≡ false
no_less i m e = grind (arith, nat_tests)

-- The next run begins where the pointers stand at it.
goes_on : (policy : Policy) (l : Link) (c : CarriedBytes) (step : ℕ) (v : Serving) (h : Handshakes) (t u : Task)
    (writes : Bool) {atn : Bool} {phase : Phase} → ways.GoesOn v atn phase → ways.NextRun v u writes
    → MovesBy policy v h t step phase → (phase ≡ Phase.MessageIn → (h.requests == 0) ≡ false)
    → PointersOf policy l c v.plan h (t.runs * step) phase → IsInRun policy l c 0 (t.runs * step)
goes_on policy l c step v h t u writes (ways.planned _ e) r w asked f =
    in_run policy l c v.plan.messages v.plan.next h.requests (t.runs * step) (asked refl) e f
goes_on policy l c step v h t u writes (ways.at_once _ a) r w asked f =
    settled_run policy l c (t.runs * step) (inl (w.at_once a)) f.here
goes_on policy l c step v h t u writes (ways.guest _ a) r w asked f = by (w.guest a)
  where
    more : nat_lt t.runs (runs_in_all (policy_of v.def) t) ≡ true
    more =
        subst (λ (x : Task). nat_lt x.runs (runs_in_all (policy_of v.def) x) ≡ true)
        (same_Some u t (sym r.task_is ∙ w.task_is)) r.more

    by : (is_never policy ≡ true) ⊎ (runs_in_all (policy_of v.def) t ≡ 0) → IsInRun policy l c 0 (t.runs * step)
    by (inl z) = settled_run policy l c (t.runs * step) (inl z) f.here
    by (inr z) = absurd (true≢false (sym more ∙ no_less t.runs (runs_in_all (policy_of v.def) t) z))

-- A run is done, and more are left: it ends where the next one begins.
record RunsOn (policy : Policy) (l : Link) (c : CarriedBytes) (step : ℕ) (def : Policy) (runs : ℕ) : Type 0 where
  pub same : policy ≡ def
  pub count : ℕ
  pub more : MoreRuns def runs step count
  pub here : IsInRun policy l c count (runs * step)

runs_on : (policy : Policy) (l : Link) (c : CarriedBytes) (step : ℕ) (v : Serving) (h : Handshakes) (t u : Task)
    {atn : Bool} {phase : Phase} → ways.IsMoved v atn phase → ways.DoneRun v u true → MovesBy policy v h t step phase
    → PointersOf policy l c v.plan h (t.runs * step) phase → RunsOn policy l c step (policy_of v.def) t.runs
runs_on policy l c step v h t u m r w e = go m w e
  where
    more : nat_lt (t.runs + 1) (runs_in_all (policy_of v.def) t) ≡ true
    more =
        subst (λ (x : Task). nat_lt (x.runs + 1) (runs_in_all (policy_of v.def) x) ≡ true)
        (same_Some u t (sym r.task_is ∙ w.task_is)) r.more_is

    go : {atn : Bool} {x : Phase} → ways.IsMoved v atn x → MovesBy policy v h t step x
        → PointersOf policy l c v.plan h (t.runs * step) x → RunsOn policy l c step (policy_of v.def) t.runs
    go (ways.given _) w e = record { same = w.cut more; count = h.requests; more = w.given refl more; here = e }
    go (ways.sent s) w e = record { same = w.cut more; count = h.answers; more = w.sent refl s more; here = e }

saves_run : (policy : Policy) (l : Link) (c : CarriedBytes) (step : ℕ) (def : Policy) (runs : ℕ)
    → disconnect_messages def ≡ two_messages MsgIn.SavePointer MsgIn.Disconnect
    → RunsOn policy l c step def runs
    → PointersIn policy l c (two_messages MsgIn.SavePointer MsgIn.Disconnect) Next.FreeBus 0
    ((runs + 1) * step)
saves_run policy l c step def runs d r = go r.more
  where
    burst : (most : ℕ) → policy ≡ Policy.Burst most → IsUndisturbed policy l → l.last ≡ plain
    burst most e (inl z) = absurd (true≢false (sym z ∙ ap is_never e))
    burst most e (inr z) = z.0

    go : MoreRuns def runs step r.count
        → PointersIn policy l c (two_messages MsgIn.SavePointer MsgIn.Disconnect) Next.FreeBus 0
        ((runs + 1) * step)
    go (in_bursts most e there) = saves refl refl (burst most (r.same ∙ e) r.here.plain) refl (r.here.active ∙ there)
    go (from_start most e zero) = wrong (ap (λ (m : Messages). is_none m.second) (sym (ap disconnect_messages e) ∙ d))

disconnects_run : (policy : Policy) (l : Link) (c : CarriedBytes) (step : ℕ) (def : Policy) (runs : ℕ)
    → disconnect_messages def ≡ one_message MsgIn.Disconnect → RunsOn policy l c step def runs
    → PointersIn policy l c (one_message MsgIn.Disconnect) Next.FreeBus 0 ((runs + 1) * step)
disconnects_run policy l c step def runs d r = go r.more
  where
    nil : (a b : ℕ) → a * 0 ≡ b * 0
    nil a b = omega arith

    none : step ≡ 0 → runs * step ≡ (runs + 1) * step
    none z = ap (λ (x : ℕ). runs * x) z ∙ nil runs (runs + 1) ∙ ap (λ (x : ℕ). (runs + 1) * x) (sym z)

    go : MoreRuns def runs step r.count
        → PointersIn policy l c (one_message MsgIn.Disconnect) Next.FreeBus 0 ((runs + 1) * step)
    go (in_bursts most e there) = wrong' (ap (λ (m : Messages). is_none m.second) (sym (ap disconnect_messages e) ∙ d))
    go (from_start most e zero) = disconnects refl refl (r.here.saved ∙ none zero) (inl refl)

-- Where ATN is true after bytes to the initiator.
abbrev pub is_attended : Phase → Bool
is_attended Phase.MessageIn = true
is_attended Phase.DataIn = true
is_attended Phase.Status = true
is_attended _ = false

abbrev pub Leads : Policy → Link → CarriedBytes → (made step : ℕ) → Phase → Leaving → Type 0
Leads policy l c made step phase x =
    ((is_attended phase ≡ true) × (x.to ≡ Some Phase.MessageOut) × (x.done ≡ false)) ⊎ EntersBy policy l c made step x

asked : (policy : Policy) (l : Link) (c : CarriedBytes) (v : Serving) (start : ℕ) (cause : Cause)
    → v.plan.cause ≡ cause → PointersAsked policy l c v.plan start v.plan.cause
    → PointersAsked policy l c v.plan start cause
asked policy l c v start cause e h = subst (PointersAsked policy l c v.plan start) e h

enter : (policy : Policy) (l : Link) (c : CarriedBytes) (step : ℕ) (v : Serving) (h : Handshakes) (t : Task)
    {atn : Bool} {phase : Phase} {x : Leaving} → ways.Leaves v atn phase x → MovesBy policy v h t step phase
    → (phase ≡ Phase.MessageIn → (h.requests == 0) ≡ false)
    → (phase ≡ Phase.MessageOut → v.plan.cause ≡ Cause.InMessage → is_some v.plan.said.offer ≡ true
    → v.plan.next ≡ Next.Command)
    → PointersOf policy l c v.plan h (t.runs * step) phase → Leads policy l c t.runs step phase x
enter policy l c step v h t (ways.attended _ ways.in_message _) w some answers f = inl (refl, refl, refl)
enter policy l c step v h t (ways.attended _ ways.in_data _) w some answers f = inl (refl, refl, refl)
enter policy l c step v h t (ways.attended _ ways.in_status _) w some answers f = inl (refl, refl, refl)
enter policy l c step v h t (ways.rejects _ o _) w some answers f =
    inr (said policy l c t.runs step MsgIn.Reject Next.Command command_on refl
    (asked policy l c v (t.runs * step) Cause.Selected o.cause f))
enter policy l c step v h t (ways.answers offer o _) w some answers f =
    inr (said policy l c t.runs step (MsgIn.Sdtr (target_answer v.def offer)) Next.Command command_on refl
    (asked policy l c v (t.runs * step) Cause.Selected o.cause f))
enter policy l c step v h t (ways.requests u o _ _) w some answers f =
    inr (said policy l c t.runs step (MsgIn.Sdtr (record { period = u.period; offset = u.offset }))
    Next.Command command_on refl (asked policy l c v (t.runs * step) Cause.Selected o.cause f))
enter policy l c step v h t (ways.opens o _) w some answers f =
    inr (same_start policy l c t.runs step no_messages Next.FreeBus (Some Phase.Command)
    (asked policy l c v (t.runs * step) Cause.Selected o.cause f))
enter policy l c step v h t (ways.is_answered d e) w some answers f =
    inr (same_start policy l c t.runs step no_messages Next.FreeBus (Some Phase.Command)
    (refused_settled policy l c v.plan.messages v.plan.next (t.runs * step) (answers refl d e)
    (asked policy l c v (t.runs * step) Cause.InMessage d f)))
enter policy l c step v h t (ways.repeats _ r) w some answers f =
    inr (same_start policy l c t.runs step v.plan.messages v.plan.next (Some Phase.MessageIn)
    (again policy l c v.plan.messages v.plan.next (t.runs * step)
    (asked policy l c v (t.runs * step) Cause.InMessage r.cause f)))
enter policy l c step v h t (ways.restores _ _ _ (ways.command _)) w some answers f =
    inr (said policy l c t.runs step MsgIn.RestorePointers Next.Command command_on refl f)
enter policy l c step v h t (ways.restores _ _ _ (ways.data_out _)) w some answers f =
    inr (same_start policy l c t.runs step (one_message MsgIn.RestorePointers) Next.GoOn
    (Some Phase.MessageIn) (restores refl refl f.plain f.saved (inl refl)))
enter policy l c step v h t (ways.restores _ _ _ (ways.data_in d)) w some answers f =
    let q = asked policy l c v (t.runs * step) Cause.InData d f in
    inr (same_start policy l c t.runs step (one_message MsgIn.RestorePointers) Next.GoOn
    (Some Phase.MessageIn) (restores refl refl q.0 q.1 (inl refl)))
enter policy l c step v h t (ways.restores_status _ d) w some answers f =
    inr (closes (inr refl) (inl refl) (asked policy l c v (t.runs * step) Cause.InStatus d f) (inl refl))
enter policy l c step v h t (ways.commands _ e) w some answers f =
    inr (same_start policy l c t.runs step no_messages Next.FreeBus (Some Phase.Command)
    (in_settled policy l c v.plan.messages v.plan.next h.requests (t.runs * step) e f))
enter policy l c step v h t (ways.reads _ u g r) w some answers f =
    inr (same_start policy l c t.runs step no_messages Next.FreeBus (Some Phase.DataIn)
    (goes_on policy l c step v h t u false g r w some f))
enter policy l c step v h t (ways.writes _ u g r) w some answers f =
    inr (same_start policy l c t.runs step no_messages Next.FreeBus (Some Phase.DataOut)
    (goes_on policy l c step v h t u true g r w some f))
enter policy l c step v h t (ways.queues _ _) w some answers f =
    inr (said policy l c t.runs step MsgIn.Disconnect Next.FreeBus free_on refl f)
enter policy l c step v h t (ways.saves _ u m r d) w some answers f =
    inr (saves_run policy l c step (policy_of v.def) t.runs d (runs_on policy l c step v h t u m r w f))
enter policy l c step v h t (ways.disconnects _ u m r d) w some answers f =
    inr (disconnects_run policy l c step (policy_of v.def) t.runs d (runs_on policy l c step v h t u m r w f))
enter policy l c step v h t (ways.completes _) w some answers f = inr (closes (inl refl) (inr refl) f (inl refl))
enter policy l c step v h t _ w some answers f = inr tt

pub leaves_enter : (policy : Policy) (l : Link) (c : CarriedBytes) (step : ℕ)
    (v : Serving) (h : Handshakes) (t : Task) (atn : Bool) (phase : Phase)
    → MovesBy policy v h t step phase → (phase ≡ Phase.MessageIn → (h.requests == 0) ≡ false)
    → (phase ≡ Phase.MessageOut → v.plan.cause ≡ Cause.InMessage → is_some v.plan.said.offer ≡ true
    → v.plan.next ≡ Next.Command) → PointersOf policy l c v.plan h (t.runs * step) phase
    → Leads policy l c t.runs step phase (phase_leaving v atn phase)
leaves_enter policy l c step v h t atn phase = enter policy l c step v h t (ways.leaves v atn phase)

-- ---- refused messages, before the process is named

pub record IsRepeated (l : Plan) (x : Leaving) (phase : Phase) : Type 0 where
  pub phase_is : phase ≡ Phase.MessageIn
  pub messages : x.messages ≡ l.messages
  pub next : x.next ≡ l.next
  pub done : x.done ≡ false

repeated_by : (l : Plan) (phase : Phase) → (message_repetition l).to ≡ Some phase
    → IsRepeated l (message_repetition l) phase
repeated_by l phase e =
    record { phase_is = sym (same_Some Phase.MessageIn phase e); messages = refl; next = refl; done = refl }

pub refusal_leads : (v : Serving) (phase : Phase) → is_some v.plan.said.offer ≡ false
    → (message_out_leaving v Cause.InMessage).to ≡ Some phase
    → IsRepeated v.plan (message_out_leaving v Cause.InMessage) phase
refusal_leads v phase none e = go (is_some v.plan.said.offer) none (is_naming v.plan.messages.first) v.task e
  where
    tries : (t : Task) (a b : Bool) → (if a then message_repetition v.plan
        else if b then record (message_repetition v.plan) { counts = true } else bus_free).to ≡ Some phase
        → IsRepeated v.plan (if a then message_repetition v.plan
        else if b then record (message_repetition v.plan) { counts = true } else bus_free) phase
    tries t true b z = repeated_by v.plan phase z
    tries t false true z =
        record { phase_is = sym (same_Some Phase.MessageIn phase z); messages = refl; next = refl; done = refl }
    tries t false false z = none_some phase z

    go : (a : Bool) → a ≡ false → (b : Bool) (o : Option Task)
        → (if a then phase_entry Phase.Command else if b then message_repetition v.plan
        else with_task o (λ t. recovery v.def t (message_repetition v.plan) bus_free)).to ≡ Some phase
        → IsRepeated v.plan (if a then phase_entry Phase.Command else if b then message_repetition v.plan
        else with_task o (λ t. recovery v.def t (message_repetition v.plan) bus_free)) phase
    go true y b o z = absurd (true≢false y)
    go false y true o z = repeated_by v.plan phase z
    go false y false None z = none_some phase z
    go false y false (Some t) z = tries t t.in_hold (nat_lt t.recoveries (recovery_limit v.def)) z
