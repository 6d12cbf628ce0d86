-- The code of the failure of the process that is served, as a phase is entered.
use Rattle.trace_laws.proofs
use proofs.Names.{inl, inr, ℕ, ◌≡◌, ◌⊎◌, ◌≤◌, Bool, true, false, ◌&&◌, ◌||◌, ◌==◌, ◌∙◌, List, [], ◌∷◌, length, Some}
use proofs.Names.{refl, sym, ap, subst, if◌then◌else◌, ◌-◌, wrong', or_true, Event, ProcId, LineSet, is_message_in, Row}
use proofs.Names.{PARITY_ERROR, INITIATOR_DETECTED_ERROR, ScenarioValue, row_reading, CarriedBytes, carried_of}
use proofs.Names.{row_events_by, Link, Story, story_after_events, story_by_change, is_status_next, bytes_of_messages}
use proofs.Names.{from_byte, Serving, phase_of, phase_leaving, cause_after, Cause, Messages, Next, Phase, Plan}
use proofs.Names.{RunState, carried_here, run_state_after, replies_to, answered_on, change_keeps, is_marked, code_if}
use proofs.Names.{UndoesAnswers, is_attended, IsClear, ClearIn, GivesFailure, RefusesFailure, SaysFailure, FailsBy}
use proofs.Failures.{Bytes.{SameFail}, Rows.{clear_in_as, clear_out_as}, Turns.{is_sending, refuses_left}}
use proofs.Failures.Words.{refuses_kept}
use Rattle.story_laws.proofs.Tells.Turns.{refused}

-- ---- what is carried after the row

-- Its failure is as before, and it keeps an answer that it had.
pub record KeptFail (c d : CarriedBytes) : Type 0 where
  pub same : SameFail c d
  pub answer : is_marked c ≡ true → is_marked d ≡ true

events_answer : (s : ScenarioValue) (b : Story) (shown : List Event) (id : ProcId)
    → is_marked (carried_of b.carried id) ≡ true
    → is_marked (carried_of (story_after_events s b shown).carried id) ≡ true
events_answer s b [] id h = h
events_answer s b (e ∷ shown) id h =
    answered_on s (story_after_events s b shown) e id
    ∙ ap (λ (q : Bool). replies_to e id || q) (events_answer s b shown id h)
    ∙ or_true (replies_to e id)

pub answer_kept : (s : ScenarioValue) (k : RunState) (row : Row) (id : ProcId) → UndoesAnswers k row
    → is_marked (carried_here k id) ≡ true → is_marked (carried_here (run_state_after s k row) id) ≡ true
answer_kept s k row id undoes h = events_answer s (story_by_change s k.story (row_reading k.story.bus_state row) row)
    (row_events_by s k.story (row_reading k.story.bus_state row) row) id
    (change_keeps s k.story (row_reading k.story.bus_state row) row undoes id ∙ h)

-- ---- MESSAGE IN

gives_kept : (l : Link) (c d : CarriedBytes) (a q : Plan) (count : ℕ) (next : Next) → KeptFail c d
    → q.messages ≡ a.messages → GivesFailure l c a count next → GivesFailure l d q count next
gives_kept l c d a q count next w e h = go next h
  where
    one : ClearIn l c a.messages count → ClearIn l d q.messages count
    one x = subst (λ (m : Messages). ClearIn l d m count) (sym e) (clear_in_as l c d a.messages count w.same x)

    go : (x : Next) → GivesFailure l c a count x → GivesFailure l d q count x
    go Next.Command z = one z
    go Next.GoOn z = one z
    go Next.Status z = w.answer z
    go Next.FreeBus (inl z) = inl (w.answer z)
    go Next.FreeBus (inr z) = inr (one z)

pub gives_entered : (l : Link) (c d : CarriedBytes) (a q : Plan) (count other : ℕ) (next : Next)
    → KeptFail c d → q.messages ≡ a.messages → q.next ≡ next → other ≡ count → GivesFailure l c a count next
    → GivesFailure l d q other q.next
gives_entered l c d a q count other next w em en ec h = subst (GivesFailure l d q other) (sym en)
    (subst (λ (x : ℕ). GivesFailure l d q x next) (sym ec) (gives_kept l c d a q count next w em h))

-- ---- COMMAND, data and STATUS

pub sending_entered : (l : Link) (d : CarriedBytes) (q : Plan) (words : List ℕ) (count : ℕ) (phase : Phase)
    → is_sending (Some phase) ≡ true → IsClear d → q.struck ≡ false → FailsBy l d q words count phase
sending_entered l d q words count Phase.Command e h f =
    (h.struck ∙ sym f, h.failure ∙ ap (λ (x : Bool). code_if x PARITY_ERROR) (sym f))
sending_entered l d q words count Phase.DataOut e h f =
    (h.struck, h.failure ∙ ap (λ (x : Bool). code_if x PARITY_ERROR) (sym f))
sending_entered l d q words count Phase.DataIn e h f = h.struck
sending_entered l d q words count _ e h f = wrong' e

-- A process that the initiator does not know yet is not left for STATUS.
pub not_to_status : (v : Serving) (attention : Bool) (phase : Phase)
    → ((phase ≡ Phase.MessageOut) × (v.plan.cause ≡ Cause.InMessage)) ⊎ ((phase ≡ Phase.MessageIn) × (attention ≡ true))
    → is_status_next (phase_leaving v attention phase).to ≡ false
not_to_status v attention phase (inl e) = ap (λ (x : Phase). is_status_next (phase_leaving v attention x).to) e.0 ∙ ap
    (λ (x : Cause). is_status_next (Rattle.due_model.specs.dialogue_model.specs.NextPhase.message_out_leaving v x).to)
    e.1 ∙ refused v
not_to_status v attention phase (inr e) =
    ap (λ (x : Phase). is_status_next (phase_leaving v attention x).to) e.0
    ∙ ap (λ (q : Bool). is_status_next (phase_leaving v q Phase.MessageIn).to) e.1

-- ---- MESSAGE OUT

refuses_when : (l : Link) (c d : CarriedBytes) (a : Plan) (words : List ℕ) (next : Next) → KeptFail c d
    → RefusesFailure l c a words next → RefusesFailure l d a words next
refuses_when l c d a words Next.Command w h = clear_out_as l c d a.messages words w.same h
refuses_when l c d a words Next.GoOn w h = clear_out_as l c d a.messages words w.same h
refuses_when l c d a words Next.Status w h = w.answer h
refuses_when l c d a words Next.FreeBus w (inl h) = inl (w.answer h)
refuses_when l c d a words Next.FreeBus w (inr h) = inr (clear_out_as l c d a.messages words w.same h)

-- From a phase to the initiator, with ATN true.
pub record Attends (l : Link) (c : CarriedBytes) (a q : Plan) (count : ℕ) (b : LineSet) : Type 0 where
  pub cause : q.cause ≡ cause_after b
  pub next : q.next ≡ a.next
  pub messages : q.messages ≡ (if is_message_in b then from_byte a.messages (count - 1) else a.messages)
  pub lines : b.msg ≡ true → b.cd ≡ true
  pub to_it : is_attended (phase_of b) ≡ true
  pub code : phase_of b ≡ Phase.DataIn → c.failure ≡ Some INITIATOR_DETECTED_ERROR
  pub given : phase_of b ≡ Phase.MessageIn → ((count == 0) ≡ false) × (count ≤ length (bytes_of_messages a.messages))

pub out_entered : (l : Link) (c d : CarriedBytes) (f q : Plan) (words others : List ℕ) (count : ℕ) (b : LineSet)
    → KeptFail c d → Attends l c f q count b → FailsBy l c f words count (phase_of b) → SaysFailure l d q others q.cause
out_entered l c d f q words others count b w a h =
    subst (SaysFailure l d q others) (sym a.cause) (go b.msg b.cd b.io a.lines a.to_it a.code a.given a.messages h)
  where
    go : (m e i : Bool) → (m ≡ true → e ≡ true)
        → is_attended (if m then (if i then Phase.MessageIn else Phase.MessageOut)
        else if e then (if i then Phase.Status else Phase.Command) else if i then Phase.DataIn else Phase.DataOut)
        ≡ true
        → ((if m then (if i then Phase.MessageIn else Phase.MessageOut)
        else if e then (if i then Phase.Status else Phase.Command) else if i then Phase.DataIn else Phase.DataOut)
        ≡ Phase.DataIn → c.failure ≡ Some INITIATOR_DETECTED_ERROR)
        → ((if m then (if i then Phase.MessageIn else Phase.MessageOut)
        else if e then (if i then Phase.Status else Phase.Command) else if i then Phase.DataIn else Phase.DataOut)
        ≡ Phase.MessageIn → ((count == 0) ≡ false) × (count ≤ length (bytes_of_messages f.messages)))
        → q.messages ≡ (if m && e && i then from_byte f.messages (count - 1) else f.messages)
        → FailsBy l c f words count (if m then (if i then Phase.MessageIn else Phase.MessageOut)
        else if e then (if i then Phase.Status else Phase.Command) else if i then Phase.DataIn else Phase.DataOut)
        → SaysFailure l d q others (if m && e && i then Cause.InMessage else if e then Cause.InStatus else Cause.InData)
    go true true true known to code given em x =
        let g = given refl in
        subst (RefusesFailure l d q others) (sym a.next) (refuses_kept l d (record f {
          messages = from_byte f.messages (count - 1);
        }) q others f.next em (refuses_when l c d (record f { messages = from_byte f.messages (count - 1) }) others
        f.next w (refuses_left l c f count others f.next g.0 g.1 x)))
    go true true false known to code given em x = wrong' to
    go true false i known to code given em x = wrong' (known refl)
    go false true true known to code given em x = w.answer x
    go false true false known to code given em x = wrong' to
    go false false true known to code given em x = w.same.failure ∙ code refl
    go false false false known to code given em x = wrong' to
