-- How a phase is left, by whose synchronous data transfer request is open (6.6.21).
use Rattle.story_laws.proofs
use proofs.Names.{ℕ, ◌≡◌, Bool, true, false, ◌∙◌, List, Option, Some, None, refl, sym, ap, subst, if◌then◌else◌}
use proofs.Names.{is_some, ⊤, wrong, wrong', Agreement, form_out, out_bytes, MsgIn, MsgOut, is_of_other, void_or_now}
use proofs.Names.{Dialogue, Heard, Spoken, End, Exchange, nothing_heard, Serving, message_out_leaving, phase_leaving}
use proofs.Names.{target_answer, Cause, Leaving, Messages, Next, Phase, Plan, Said, OnMessages, is_out_phase}
use proofs.Names.{Understanding, nothing_understood, understood, AreWordsHeard, is_out_next, IsNoRequest, requests}
use proofs.Names.{Plans, negotiates, offer_now, offer_said, is_detected, IsHeardOut, opens, repeats, answers_it}
use proofs.{Names.{detects}, Complaints.Turns.{attended}}
use Rattle.row_laws.specs.Offers.{answers, refuses, plain}
use Rattle.row_laws.specs.link_laws.proofs.LeavingWays as ways

-- Where a phase is left with this request open: in MESSAGE IN it is as planned, in the others but MESSAGE OUT none is
-- open.
abbrev pub HeadsTo : Option End → Option Phase → Messages → Next → Type 0
HeadsTo o None messages next = ⊤
HeadsTo o (Some Phase.MessageIn) messages next = Plans o messages next
HeadsTo o (Some Phase.MessageOut) messages next = ⊤
HeadsTo o (Some _) messages next = o ≡ None

abbrev pub Heads : Option End → Leaving → Type 0
Heads o l = HeadsTo o l.to l.messages l.next

-- ---- no request is open, and none is planned

abbrev AsksNone : Leaving → Type 0
AsksNone l = OnMessages IsNoRequest l.messages

heads_plain : (o : Option End) (l : Leaving) → o ≡ None → AsksNone l → Heads o l
heads_plain o l e h = go l.to
  where
    go : (to : Option Phase) → HeadsTo o to l.messages l.next
    go None = tt
    go (Some Phase.MessageIn) = plain e h
    go (Some Phase.MessageOut) = tt
    go (Some Phase.DataOut) = e
    go (Some Phase.DataIn) = e
    go (Some Phase.Command) = e
    go (Some Phase.Status) = e

asks_none : {v : Serving} {attention : Bool} {phase : Phase} {l : Leaving} → ways.Leaves v attention phase l
    → is_out_phase phase ≡ false → AsksNone l
asks_none (ways.answers _ _ _) e = wrong e
asks_none (ways.requests _ _ _ _) e = wrong e
asks_none (ways.repeats _ _) e = wrong e
asks_none (ways.rejects _ _ _) e = (refl, tt)
asks_none (ways.restores _ _ _ _) e = (refl, tt)
asks_none (ways.restores_status _ _) e = (refl, tt)
asks_none (ways.queues _ _) e = (refl, tt)
asks_none (ways.saves _ _ _ _ _) e = (refl, refl)
asks_none (ways.disconnects _ _ _ _ _) e = (refl, tt)
asks_none (ways.completes _) e = (refl, tt)
asks_none _ e = (tt, tt)

pub heads_none : (v : Serving) (o : Option End) (attention : Bool) (phase : Phase) → is_out_phase phase ≡ false
    → o ≡ None → Heads o (phase_leaving v attention phase)
heads_none v o attention phase h e =
    heads_plain o (phase_leaving v attention phase) e (asks_none (ways.leaves v attention phase) h)

-- ---- MESSAGE IN with ATN true, and the phases that lead to MESSAGE OUT

pub heads_attended : (v : Serving) (o : Option End) → Heads o (phase_leaving v true Phase.MessageIn)
heads_attended v o = tt

-- MESSAGE IN is left for MESSAGE OUT with ATN true alone.
pub attends : (v : Serving) (attention : Bool) → (phase_leaving v attention Phase.MessageIn).to ≡ Some Phase.MessageOut
    → attention ≡ true
attends v attention e = (attended (ways.leaves v attention Phase.MessageIn) (ap is_out_next e)).0

-- ---- MESSAGE OUT

-- Whose request is open after it, by what it was for.
abbrev IsOpenAfter : Option End → Plan → Cause → Type 0
IsOpenAfter o l Cause.Selected = o ≡ offer_said l.said
IsOpenAfter o l Cause.InMessage =
    (is_some l.said.offer ≡ true → o ≡ None) × (is_some l.said.offer ≡ false → Plans o l.messages l.next)
IsOpenAfter o l Cause.InData = o ≡ None
IsOpenAfter o l Cause.InStatus = o ≡ None

opened : (v : Serving) (o : Option End) (offer : Option Agreement) → ways.IsOpened v → v.plan.said.offer ≡ offer
    → IsOpenAfter o v.plan v.plan.cause → o ≡ (if is_some offer then Some End.Initiator else None)
opened v o offer w e h =
    subst (IsOpenAfter o v.plan) w.cause h ∙ ap
    (λ (x : Option Agreement). if is_some x then Some End.Initiator else None) e

heads : (v : Serving) (o : Option End) {attention : Bool} {l : Leaving} → ways.Leaves v attention Phase.MessageOut l
    → IsOpenAfter o v.plan v.plan.cause → Heads o l
heads v o (ways.rejects offer w e) h =
    negotiates None MsgIn.Reject (refuses (opened v o (Some offer) w e h) refl refl) refl refl
heads v o (ways.answers offer w e) h =
    negotiates None (MsgIn.Sdtr (target_answer v.def offer))
    (answers (target_answer v.def offer) (opened v o (Some offer) w e h) refl refl) refl refl
heads v o (ways.requests t w n _) h =
    let own : Agreement = record { period = t.period; offset = t.offset } in
    negotiates (Some End.Target) (MsgIn.Sdtr own) (requests own (opened v o None w n h) refl refl) refl refl
heads v o (ways.opens w n) h = opened v o None w n h
heads v o (ways.is_answered c e) h = (subst (IsOpenAfter o v.plan) c h).0 e
heads v o (ways.repeats _ r) h = (subst (IsOpenAfter o v.plan) r.cause h).1 r.none
heads v o (ways.restores _ _ _ (ways.data_in c)) h = plain (subst (IsOpenAfter o v.plan) c h) (refl, tt)
heads v o (ways.gives_up _ _ (ways.data_in c)) h = subst (IsOpenAfter o v.plan) c h
heads v o (ways.restores_status _ c) h = plain (subst (IsOpenAfter o v.plan) c h) (refl, tt)
heads v o (ways.reads _ _ g _) h = elim g [ ]
heads v o (ways.writes _ _ g _) h = elim g [ ]
heads v o (ways.moves_none _ _ g _) h = elim g [ ]
heads v o (ways.saves _ _ m _ _) h = elim m [ ]
heads v o (ways.disconnects _ _ m _ _) h = elim m [ ]
heads v o (ways.ends_runs _ _ m _) h = elim m [ ]
heads v o _ h = tt

-- What the target has heard of one message.
pub parity_said : (understood nothing_understood (out_bytes MsgOut.ParityError)).said ≡ nothing_heard
unfolding form_out
parity_said = refl

answer_said : (a : Agreement) → is_some (understood nothing_understood (out_bytes (MsgOut.Sdtr a))).said.offer ≡ true
unfolding form_out
answer_said a = refl

pub all_said : (x : Exchange) (d : Dialogue) (bytes : List ℕ) → AreWordsHeard x.speech x.plan d → d.is_last ≡ true
    → x.speech.words ≡ bytes → x.plan.said ≡ (understood nothing_understood bytes).said
all_said x d bytes w last e = ap (λ (u : Understanding). u.said) (w.last last ∙ ap (understood nothing_understood) e)

-- It is left after its last byte.
pub heads_out : (v : Serving) (x : Exchange) (d : Dialogue) → v.plan ≡ x.plan → AreWordsHeard x.speech x.plan d
    → d.is_last ≡ true → IsHeardOut x d → Heads (offer_now d) (message_out_leaving v v.plan.cause)
heads_out v x d ep w last h =
    heads v (offer_now d) (ways.leaves v false Phase.MessageOut)
    (subst (λ (l : Plan). IsOpenAfter (offer_now d) l l.cause) (sym ep) (by h))
  where
    detected : (cause : Cause) → is_detected cause ≡ true → offer_now d ≡ None → IsOpenAfter (offer_now d) x.plan cause
    detected Cause.InData e o = o
    detected Cause.InStatus e o = o
    detected _ e o = wrong' e

    by : IsHeardOut x d → IsOpenAfter (offer_now d) x.plan x.plan.cause
    by (opens c ao av hv o) = subst (IsOpenAfter (offer_now d) x.plan) (sym c) o
    by (repeats before c one was l) =
        let offer : offer_now d ≡ before =
        ap (λ (h : Heard). h.now.offer) (one.last last) ∙ ap
        (λ (z : Option Spoken). (void_or_now z d.at_phase.now).offer) was.void_is ∙ was.offer_is in
        let none : x.plan.said.offer ≡ None =
        ap (λ (z : Said). z.offer) (all_said x d _ w last one.words_are ∙ parity_said) in
        subst (IsOpenAfter (offer_now d) x.plan) (sym c) (
          λ e. wrong' (sym (ap (λ (z : Option Agreement). is_some z) none) ∙ e),
          λ e. subst (λ (z : Option End). Plans z x.plan.messages x.plan.next) (sym offer) l,
        )
    by (answers_it a c next one o) =
        let offer : offer_now d ≡ None =
        ap (λ (h : Heard). h.now.offer) (one.last last)
        ∙ ap (λ (z : Option End).
        (if is_of_other z End.Initiator then
        record d.at_phase.now { agreement = a; offer = None; answered = Some End.Initiator }
        else record d.at_phase.now { offer = Some End.Initiator; answered = None }).offer) o in
        let some : is_some x.plan.said.offer ≡ true =
        ap (λ (z : Said). is_some z.offer) (all_said x d _ w last one.words_are) ∙ answer_said a in
        subst (IsOpenAfter (offer_now d) x.plan) (sym c) (λ e. offer, λ e. wrong (sym some ∙ e))
    by (detects c one o) = detected x.plan.cause c (ap (λ (h : Heard). h.now.offer) (one.last last) ∙ o)
