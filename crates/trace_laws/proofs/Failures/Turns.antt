-- The code of the failure of the process that is served, as its target leaves a phase.
use Rattle.trace_laws.proofs
use proofs.Names.{inl, inr, ℕ, ◌≡◌, ◌≤◌, Bool, true, false, ◌==◌, ◌∙◌, List, length, Option, Some, refl, sym, ap, subst}
use proofs.Names.{arith, nat_tests, ◌-◌, is_some, wrong', PARITY_ERROR, INITIATOR_DETECTED_ERROR, MsgIn, CarriedBytes}
use proofs.Names.{Link, one_message, bytes_of_messages, from_byte, Serving, phase_leaving, parity_error, Cause, Leaving}
use proofs.Names.{Messages, Next, Phase, Plan, some_zero, is_to_message_in, code_if, IsClear, UndoesClear, ClearIn}
use proofs.Names.{clear, ClearOut, still_clear, GivesFailure, RefusesFailure, SaysFailure, FailsBy, restores}
use proofs.Names.{restores_again}
use Rattle.story_laws.specs.link_laws.proofs.LeavingWays as ways

-- ---- to MESSAGE IN

-- What is given there, by the messages and by what follows them.
abbrev pub GivesWith : Link → CarriedBytes → Plan → Leaving → Type 0
GivesWith l c a x = GivesFailure l c (record a { messages = x.messages; next = x.next }) 0 x.next

-- Nothing has struck it as the opening is over.
opened : (l : Link) (c : CarriedBytes) (v : Serving) (words : List ℕ) → ways.IsOpened v
    → SaysFailure l c v.plan words v.plan.cause → IsClear c × UndoesClear l.undo
opened l c v words o h = subst (SaysFailure l c v.plan words) o.cause h

asks : (l : Link) (c : CarriedBytes) (m : Messages) → IsClear c × UndoesClear l.undo → ClearIn l c m 0
asks l c m (h, u) = clear h (inl u)

-- Nor in a command, or in data, of which no byte was struck.
unstruck : (c : CarriedBytes) (l : Plan) → l.struck ≡ false → c.struck ≡ false
    → c.failure ≡ code_if l.struck PARITY_ERROR → IsClear c
unstruck c l e st h = record { failure = h ∙ ap (λ (q : Bool). code_if q PARITY_ERROR) e; struck = st }

ran : (l : Link) (c : CarriedBytes) (v : Serving) (words : List ℕ) (count : ℕ) {attention : Bool} {phase : Phase}
    → ways.IsMoved v attention phase → (phase ≡ Phase.DataIn → c.failure ≡ code_if attention INITIATOR_DETECTED_ERROR)
    → FailsBy l c v.plan words count phase → IsClear c
ran l c v words count (ways.given a) into h =
    record { failure = into refl ∙ ap (λ (q : Bool). code_if q INITIATOR_DETECTED_ERROR) a; struck = h }
ran l c v words count (ways.sent e) into h = unstruck c v.plan e h.0 h.1

again : (l : Link) (c : CarriedBytes) (a : Plan) (words : List ℕ) (next : Next) → RefusesFailure l c a words next
    → GivesFailure l c a 0 next
again l c a words next h = go next h
  where
    one : ClearOut l c a.messages words → ClearIn l c a.messages 0
    one (still_clear f u) = clear f (inl u)
    one (restores_again e f) = restores e (inl refl)

    go : (x : Next) → RefusesFailure l c a words x → GivesFailure l c a 0 x
    go Next.Command z = one z
    go Next.GoOn z = one z
    go Next.Status z = z
    go Next.FreeBus (inl z) = inl z
    go Next.FreeBus (inr z) = inr (one z)

gives : (l : Link) (c : CarriedBytes) (v : Serving) (words : List ℕ) (count : ℕ) {attention : Bool} {phase : Phase}
    {x : Leaving} → ways.Leaves v attention phase x
    → (phase ≡ Phase.DataIn → c.failure ≡ code_if attention INITIATOR_DETECTED_ERROR)
    → FailsBy l c v.plan words count phase
    → is_to_message_in x.to ≡ true → GivesWith l c v.plan x
gives l c v words count (ways.rejects _ o _) into h e = asks l c _ (opened l c v words o h)
gives l c v words count (ways.answers _ o _) into h e = asks l c _ (opened l c v words o h)
gives l c v words count (ways.requests _ o _ _) into h e = asks l c _ (opened l c v words o h)
gives l c v words count (ways.repeats _ r) into h e =
    again l c v.plan words v.plan.next (subst (SaysFailure l c v.plan words) r.cause h)
-- RESTORE POINTERS comes before COMMAND and data
gives l c v words count (ways.restores _ _ _ (ways.command _)) into h e = restores refl (inl refl)
gives l c v words count (ways.restores _ _ _ (ways.data_out _)) into h e = restores refl (inl refl)
gives l c v words count (ways.restores _ _ _ (ways.data_in _)) into h e = restores refl (inl refl)
gives l c v words count (ways.restores_status _ d) into h e = subst (SaysFailure l c v.plan words) d h
gives l c v words count (ways.queues s _) into h e = inr (clear (unstruck c v.plan s (h.0 ∙ s) h.1) (inr (refl, refl)))
gives l c v words count (ways.saves _ _ m _ _) into h e =
    inr (clear (ran l c v words count m into h) (inr (refl, refl)))
gives l c v words count (ways.disconnects _ _ m _ _) into h e =
    inr (clear (ran l c v words count m into h) (inr (refl, refl)))
gives l c v words count (ways.completes _) into h e = inl h
gives l c v words count _ into h e = wrong' e

pub gives_left :
    (l : Link) (c : CarriedBytes) (v : Serving) (words : List ℕ) (count : ℕ) (attention : Bool) (phase : Phase)
    → (phase ≡ Phase.DataIn → c.failure ≡ code_if attention INITIATOR_DETECTED_ERROR)
    → FailsBy l c v.plan words count phase → is_to_message_in (phase_leaving v attention phase).to ≡ true
    → GivesWith l c v.plan (phase_leaving v attention phase)
gives_left l c v words count attention phase = gives l c v words count (ways.leaves v attention phase)

-- ---- to COMMAND or data: nothing has struck the process

abbrev pub is_sending : Option Phase → Bool
is_sending (Some Phase.Command) = true
is_sending (Some Phase.DataOut) = true
is_sending (Some Phase.DataIn) = true
is_sending _ = false

-- What stands as a phase is left.
pub record LeftSo (v : Serving) (words : List ℕ) (count : ℕ) (attention : Bool) (phase : Phase) : Type 0 where
  pub some : phase ≡ Phase.MessageIn → (count == 0) ≡ false
  pub answered : phase ≡ Phase.MessageOut → v.plan.cause ≡ Cause.InMessage → is_some v.plan.said.offer ≡ true
      → (v.plan.next ≡ Next.Command) × (words ≡ parity_error → ⊥)

given_clear : (l : Link) (c : CarriedBytes) (m : Messages) (count : ℕ) → (count == 0) ≡ false → ClearIn l c m count
    → IsClear c
given_clear l c m count some (clear h u) = h
given_clear l c m count some (restores e (inl z)) = some_zero count some z
given_clear l c m count some (restores e (inr h)) = h

said_clear : (l : Link) (c : CarriedBytes) (m : Messages) (words : List ℕ)
    → (words ≡ parity_error → ⊥) → ClearOut l c m words → IsClear c
said_clear l c m words other (still_clear h u) = h
said_clear l c m words other (restores_again e (inl z)) = absurd (other z)
said_clear l c m words other (restores_again e (inr h)) = h

goes_on : (l : Link) (c : CarriedBytes) (v : Serving) (words : List ℕ) (count : ℕ) {attention : Bool} {phase : Phase}
    → ways.GoesOn v attention phase → LeftSo v words count attention phase → FailsBy l c v.plan words count phase
    → IsClear c
goes_on l c v words count (ways.planned _ n) w h =
    given_clear l c v.plan.messages count (w.some refl) (subst (GivesFailure l c v.plan count) n h)
goes_on l c v words count (ways.at_once s _) w h = unstruck c v.plan s (h.0 ∙ s) h.1
goes_on l c v words count (ways.guest s _) w h = unstruck c v.plan s (h.0 ∙ s) h.1

sends : (l : Link) (c : CarriedBytes) (v : Serving) (words : List ℕ) (count : ℕ) {attention : Bool} {phase : Phase}
    {x : Leaving} → ways.Leaves v attention phase x → LeftSo v words count attention phase
    → FailsBy l c v.plan words count phase → is_sending x.to ≡ true → IsClear c
sends l c v words count (ways.opens o _) w h e = (opened l c v words o h).0
sends l c v words count (ways.is_answered d a) w h e =
    let x = w.answered refl d a in
    said_clear l c v.plan.messages words x.1
    (subst (RefusesFailure l c v.plan words) x.0 (subst (SaysFailure l c v.plan words) d h))
sends l c v words count (ways.commands _ n) w h e =
    given_clear l c v.plan.messages count (w.some refl) (subst (GivesFailure l c v.plan count) n h)
sends l c v words count (ways.reads _ _ g _) w h e = goes_on l c v words count g w h
sends l c v words count (ways.writes _ _ g _) w h e = goes_on l c v words count g w h
sends l c v words count _ w h e = wrong' e

pub sends_clear :
    (l : Link) (c : CarriedBytes) (v : Serving) (words : List ℕ) (count : ℕ) (attention : Bool) (phase : Phase)
    → LeftSo v words count attention phase → FailsBy l c v.plan words count phase
    → is_sending (phase_leaving v attention phase).to ≡ true → IsClear c
sends_clear l c v words count attention phase = sends l c v words count (ways.leaves v attention phase)

-- ---- to MESSAGE OUT

front_one : (m : Messages) (count : ℕ) → m ≡ one_message MsgIn.RestorePointers → (count == 0) ≡ false
    → count ≤ length (bytes_of_messages m) → from_byte m (count - 1) ≡ m
front_one m count e some few = (λ i. from_byte (e i) (one i - 1)) ∙ sym e
  where
    one : count ≡ 1
    one = go (ap (λ (x : Messages). length (bytes_of_messages x)) e) some few
      where
        go : length (bytes_of_messages m) ≡ 1 → (count == 0) ≡ false → count ≤ length (bytes_of_messages m) → count ≡ 1
        go a b c = grind (arith, nat_tests)

refused_clear : (l : Link) (c : CarriedBytes) (m : Messages) (count : ℕ) (words : List ℕ) → (count == 0) ≡ false
    → count ≤ length (bytes_of_messages m) → ClearIn l c m count → ClearOut l c (from_byte m (count - 1)) words
refused_clear l c m count words some few (clear h (inl u)) = still_clear h u
refused_clear l c m count words some few (clear h (inr z)) = some_zero count some z.0
refused_clear l c m count words some few (restores e (inl z)) = some_zero count some z
refused_clear l c m count words some few (restores e (inr h)) =
    restores_again (front_one m count e some few ∙ e) (inr h)

-- Of MESSAGE IN, by what follows it.
pub refuses_left : (l : Link) (c : CarriedBytes) (a : Plan) (count : ℕ) (words : List ℕ) (next : Next)
    → (count == 0) ≡ false → count ≤ length (bytes_of_messages a.messages) → GivesFailure l c a count next
    → RefusesFailure l c (record a { messages = from_byte a.messages (count - 1) }) words next
refuses_left l c a count words Next.Command some few h = refused_clear l c a.messages count words some few h
refuses_left l c a count words Next.GoOn some few h = refused_clear l c a.messages count words some few h
refuses_left l c a count words Next.Status some few h = h
refuses_left l c a count words Next.FreeBus some few (inl h) = inl h
refuses_left l c a count words Next.FreeBus some few (inr h) = inr (refused_clear l c a.messages count words some few h)

-- ---- to BUS FREE
