-- The code of the failure of the process that is served, as a byte of MESSAGE OUT crosses.
use Rattle.trace_laws.proofs
use proofs.Names.{inl, inr, ℕ, ◌≡◌, ◌⊎◌, Bool, true, false, ◌%◌, ◌∙◌, List, [], ◌∷◌, ◌++◌, Some, None, refl, sym, ap}
use proofs.Names.{subst, same_Some, if◌then◌else◌, is_some, wrong, wrong', ProcId, changes_phase, is_message_out}
use proofs.Names.{is_fault, receiver_in, Row, Change, Connection, got_in, got_out, MsgOut, fresh_bytes, Dialogue}
use proofs.Names.{ScenarioValue, whole_in, whole_out, message_in, message_out, CarriedBytes, carried_of, Link, last_out}
use proofs.Names.{story_after_out, story_after_in, story_after_byte, Exchange, phase_of, parity_error, Cause, Messages}
use proofs.Names.{Next, Phase, Plan, host_of, RunState, bus_of, carried_here, run_state_after, in_connection}
use proofs.Names.{reading_in, AreWordsFor, answers, Speaks, GoesOn, none_some, in_out, out_phase, by_option, is_marked}
use proofs.Names.{is_detected, answer_said, LinkAfter, says, hears, link_crossed, KeptPlan, Stays, stays_as}
use proofs.{Names.{answers_stay, ClearOut, RefusesFailure, SaysFailure, FailsBy, FailTalk}, Failures.Bytes.{SameFail}}
use proofs.Failures.{Bytes.{clear_as, row_carries, out_fails, out_clear}, Crossings.{quiet_same, same_words}}
use proofs.Failures.{Rows.{SaysOf, says_on}, Steps.{FailRow}}
use Rattle.story_laws.specs.book_laws.specs.Speaking.{refuses}
use Rattle.story_laws.proofs.Commands.Counts.{is_refusal}
use Rattle.story_laws.proofs.Undone.Answers.{detects}
use Rattle.story_laws.proofs.Items.Row as rows

-- ---- what is planned stays

pub refuses_kept : (l : Link) (c : CarriedBytes) (a q : Plan) (words : List ℕ) (next : Next) → q.messages ≡ a.messages
    → RefusesFailure l c a words next → RefusesFailure l c q words next
refuses_kept l c a q words Next.Command e h = subst (λ (m : Messages). ClearOut l c m words) (sym e) h
refuses_kept l c a q words Next.GoOn e h = subst (λ (m : Messages). ClearOut l c m words) (sym e) h
refuses_kept l c a q words Next.Status e h = h
refuses_kept l c a q words Next.FreeBus e (inl h) = inl h
refuses_kept l c a q words Next.FreeBus e (inr h) = inr (subst (λ (m : Messages). ClearOut l c m words) (sym e) h)

says_kept : (l : Link) (c : CarriedBytes) (a q : Plan) (words : List ℕ) (cause : Cause) → KeptPlan a q
    → SaysFailure l c a words cause → SaysFailure l c q words cause
says_kept l c a q words Cause.InMessage e h =
    subst (RefusesFailure l c q words) (sym e.next) (refuses_kept l c a q words a.next e.messages h)
says_kept l c a q words _ e h = h

-- ---- a byte of MESSAGE OUT

pub out_fail : (s : ScenarioValue) (k : RunState) (row : Row) (n : Connection) (c : Change) (l m : Link) (id : ProcId)
    → FailRow s k row n c l id → GoesOn s k row n c → Speaks s k n → changes_phase c ≡ false
    → is_some (receiver_in n c) ≡ true → is_message_out c.before ≡ true
    → (run_state_after s k row).story.link ≡ Some m → k.exchange.begun ≡ true → FailTalk k l (carried_here k id)
    → FailTalk (run_state_after s k row) m (carried_here (run_state_after s k row) id)
out_fail s k row n c l m id g of speaks ep en out em b h = record {
  unbegun = λ u. wrong (sym (t.begun ∙ b) ∙ u);
  begun = λ u. subst (FailsBy m d j.exchange.plan j.exchange.speech.words j.handshakes.requests)
      (sym (t.phase ∙ here)) (subst (SaysFailure m d j.exchange.plan j.exchange.speech.words) (sym t.plan.cause)
      (subst (λ (ws : List ℕ). SaysFailure m d j.exchange.plan ws k.exchange.plan.cause) (sym words)
      (says_kept m d k.exchange.plan j.exchange.plan k.exchange.speech.words k.exchange.plan.cause t.plan
      (says_on l m own d k.exchange.plan k.exchange.speech.words k.exchange.plan.cause said in_message in_data
      (subst (FailsBy l own k.exchange.plan k.exchange.speech.words k.handshakes.requests) here (h.begun b))))));
}
  where
    j : RunState
    j = run_state_after s k row

    own : CarriedBytes
    own = carried_here k id

    d : CarriedBytes
    d = carried_here j id

    dialogue : Dialogue
    dialogue = k.story.bus_state.dialogue

    t : Stays s k row n c true
    t = stays_as s k row n c true g.row_is ep en

    here : phase_of (bus_of k) ≡ Phase.MessageOut
    here = ap phase_of g.row_is.bus_is ∙ out_phase c.before out

    words : j.exchange.speech.words ≡ k.exchange.speech.words
    words = ap (λ (x : Exchange). x.speech.words)
        (in_connection s k row n c false true (is_fault row.kind) g.row_is ep en refl).exchange_is
        ∙ same_words (is_message_out c.before) k.exchange.speech (message_in dialogue c true)

    none : message_in dialogue c true ≡ None
    none = ap (λ (q : Bool). if q then whole_in (got_in (dialogue.half ++ c.after.data_bits % 256 ∷ [])) else None)
        (in_out c.before out)

    answer : is_marked d ≡ is_marked own
    answer = answers_stay s k row n c true l g.row_is en g.link_is g.undoes (λ z. wrong' (sym ep ∙ z)) id

    carries : (x : MsgOut) → message_out dialogue c true ≡ Some x
        → SameFail (carried_of (story_after_out k.story l (Some x)).carried id) d
    carries x e = subst (λ (z : CarriedBytes). SameFail z d)
        (λ i. carried_of (if is_some (e i) then story_after_out k.story l (e i)
        else if is_some (message_in dialogue c true) then story_after_in s k.story l (message_in dialogue c true)
        else story_after_byte k.story l (reading_in k.story.bus_state n c true)).carried id)
        (row_carries s k row n c true l g.row_is en g.link_is id)

    -- Nothing is taken back.
    kept : is_refusal (message_out dialogue c true) ≡ false → SameFail own d
    kept e =
        by_option (message_out dialogue c true)
        (λ z. quiet_same s k row n c l id g en z none)
        (λ x z.
        let v = carries x z in
        let w = out_fails k.story l x id (sym (ap is_refusal z) ∙ e) in
        record { failure = v.failure ∙ w.failure; struck = v.struck ∙ w.struck })

    in_message : k.exchange.plan.cause ≡ Cause.InMessage → (k.exchange.speech.words ≡ parity_error) ⊎ SameFail own d
    in_message ec =
        go k.exchange.plan.cause ec (speaks.in_message_out b (ap is_message_out g.row_is.bus_is ∙ out)).words_for
      where
        go : (cause : Cause) → cause ≡ Cause.InMessage → AreWordsFor s n k.served k.exchange cause
            → (k.exchange.speech.words ≡ parity_error) ⊎ SameFail own d
        go _ e (refuses w) = inl w
        go _ e (answers w) = inr (kept ((λ i. is_refusal
            (if out i then whole_out (got_out (fresh_bytes dialogue ++ c.after.data_bits % 256 ∷ [])) else None))
            ∙ answer_said k.exchange.speech k.exchange.plan dialogue
            (c.after.data_bits % 256) (host_of s n.initiator) k.exchange.speech.asked
            (speaks.in_message_out b (ap is_message_out g.row_is.bus_is ∙ out)).heard (of.says out en).0 w))
        go _ e _ = absurd cc

    in_data : k.exchange.plan.cause ≡ Cause.InData → SameFail own d
    in_data ec = kept (detects s k n c speaks b g.row_is.bus_is out (of.says out en).0 (ap is_detected ec))

    said : SaysOf l m own d
    said = by (link_crossed s k row n c l g.row_is en g.link_is)
      where
        by : LinkAfter s k.story l (message_out dialogue c true) (message_in dialogue c true) j.story.link
            → SaysOf l m own d
        by (says x e z) = record {
          undo = ap (λ (y : Link). y.undo) (same_Some m (record l { last = last_out x l }) (sym em ∙ z));
          clears = λ u f. clear_as _ d (carries x e) (out_clear k.story l x id u f);
          answer = answer;
        }
        by (rows.stays e f z) = record {
          undo = ap (λ (y : Link). y.undo) (same_Some m l (sym em ∙ z));
          clears = λ u v. clear_as own d (quiet_same s k row n c l id g en e none) v;
          answer = answer;
        }
        by (hears x e f z) = none_some x (sym none ∙ f)
