-- The code of the failure of the process that is served, as a byte crosses.
use Rattle.trace_laws.proofs
use proofs.Names.{inl, inr, ℕ, ◌≡◌, ◌⊎◌, Bool, true, false, ◌+◌, ◌%◌, ◌∙◌, List, [], ◌∷◌, ◌++◌, Option, Some, None}
use proofs.Names.{refl, sym, ap, subst, same_Some, if◌then◌else◌, is_some, wrong, wrong', ProcId, changes_phase}
use proofs.Names.{is_message_out, is_message_in, is_fault, receiver_in, Row, Change, Connection, got_in, got_out, MsgIn}
use proofs.Names.{fresh_bytes, ScenarioValue, whole_in, whole_out, message_in, message_out, CarriedBytes, carried_of}
use proofs.Names.{carried_if, Item, process, Link, story_after_out, story_after_in, story_after_byte}
use proofs.Names.{story_in_connection, Exchange, Speech, plan_after_message, speech_after_byte, speech_after_request}
use proofs.Names.{phase_of, Phase, Plan, RunState, bus_of, carried_here, run_state_after, is_message, in_connection}
use proofs.Names.{reading_in, none_some, is_marked, is_short, LinkAfter, says, hears, heard_link, link_crossed}
use proofs.{Names.{same_phase_of, answers_stay, IsClear, UndoesClear, FailsBy, FailTalk}, Failures.Bytes.{SameFail}}
use proofs.Failures.{Bytes.{clear_as, row_carries, byte_fails, in_clear, in_restores}, Rows.{fails_as, HearsOf}}
use proofs.Failures.{Rows.{gives_on}, Steps.{FailRow, count_as}}
use Rattle.story_laws.proofs.Items.Row.{stays}

by_exchange : (l : Link) (c : CarriedBytes) (a q : Plan) (words others : List ℕ) (count : ℕ) (phase : Phase) → q ≡ a
    → others ≡ words → FailsBy l c a words count phase → FailsBy l c q others count phase
by_exchange l c a q words others count phase ep ew h = subst (λ (x : Plan). FailsBy l c x others count phase) (sym ep)
    (subst (λ (x : List ℕ). FailsBy l c a x count phase) (sym ew) h)

pub same_words : (q : Bool) (v : Speech) (m : Option MsgIn)
    → (if q then speech_after_byte v else speech_after_request v m).words ≡ v.words
same_words true v m = refl
same_words false v m = refl

-- What is said and planned, but in MESSAGE OUT.
record Crossed (k j : RunState) : Type 0 where
  begun : j.exchange.begun ≡ k.exchange.begun
  plan : j.exchange.plan ≡ k.exchange.plan
  words : j.exchange.speech.words ≡ k.exchange.speech.words
  phase : phase_of (bus_of j) ≡ phase_of (bus_of k)

crossed : (s : ScenarioValue) (k : RunState) (row : Row) (n : Connection) (c : Change) (l : Link) (id : ProcId)
    → FailRow s k row n c l id → changes_phase c ≡ false → is_some (receiver_in n c) ≡ true
    → is_message_out c.before ≡ false → Crossed k (run_state_after s k row)
crossed s k row n c l id g ep en out =
    let i = in_connection s k row n c false true (is_fault row.kind) g.row_is ep en refl in
    record {
      begun = ap (λ (x : Exchange). x.begun) i.exchange_is;
      plan = ap (λ (x : Exchange). x.plan) i.exchange_is
          ∙ ap (λ (q : Bool). if q then plan_after_message k.exchange.plan k.story.bus_state.dialogue.is_last
          (message_out k.story.bus_state.dialogue c true) else k.exchange.plan) out;
      words = ap (λ (x : Exchange). x.speech.words) i.exchange_is
          ∙ same_words (is_message_out c.before) k.exchange.speech (message_in k.story.bus_state.dialogue c true);
      phase = ap phase_of i.bus_is ∙ same_phase_of c ep ∙ ap phase_of (sym g.row_is.bus_is);
    }

pub out_none : (k : RunState) (c : Change) → is_message_out c.before ≡ false
    → message_out k.story.bus_state.dialogue c true ≡ None
out_none k c e = ap (λ (q : Bool).
    if q then whole_out (got_out (fresh_bytes k.story.bus_state.dialogue ++ c.after.data_bits % 256 ∷ [])) else None) e

pub in_none : (k : RunState) (c : Change) → is_message_in c.before ≡ false
    → message_in k.story.bus_state.dialogue c true ≡ None
in_none k c e = ap (λ (q : Bool).
    if q then whole_in (got_in (k.story.bus_state.dialogue.half ++ c.after.data_bits % 256 ∷ [])) else None) e

-- No message is whole with it.
pub quiet_same : (s : ScenarioValue) (k : RunState) (row : Row) (n : Connection) (c : Change) (l : Link) (id : ProcId)
    → FailRow s k row n c l id → is_some (receiver_in n c) ≡ true
    → message_out k.story.bus_state.dialogue c true ≡ None → message_in k.story.bus_state.dialogue c true ≡ None
    → SameFail (carried_here k id) (carried_here (run_state_after s k row) id)
quiet_same s k row n c l id g en out into =
    let e = reading_in k.story.bus_state n c true in
    let v = row_carries s k row n c true l g.row_is en g.link_is id in
    let w = byte_fails k.story l e id in
    let is : carried_of (story_in_connection s k.story (Some l) e row).carried id
    ≡ carried_of (story_after_byte k.story l e).carried id = λ i. carried_of
    (if is_some (out i) then story_after_out k.story l (out i)
    else if is_some (into i) then story_after_in s k.story l (into i) else story_after_byte k.story l e).carried id in
    let u = subst (λ (x : CarriedBytes). SameFail x (carried_here (run_state_after s k row) id)) is v in
    record { failure = u.failure ∙ w.failure; struck = u.struck ∙ w.struck }

-- ---- in COMMAND, data and STATUS

pub else_fail : (s : ScenarioValue) (k : RunState) (row : Row) (n : Connection) (c : Change) (l m : Link) (id : ProcId)
    → FailRow s k row n c l id → changes_phase c ≡ false → is_some (receiver_in n c) ≡ true
    → is_message_out c.before ≡ false → is_message_in c.before ≡ false → (phase_of (bus_of k) ≡ Phase.MessageIn → ⊥)
    → (run_state_after s k row).story.link ≡ Some m → k.exchange.begun ≡ true → FailTalk k l (carried_here k id)
    → FailTalk (run_state_after s k row) m (carried_here (run_state_after s k row) id)
else_fail s k row n c l m id g ep en out into apart em b h = go (link_crossed s k row n c l g.row_is en g.link_is)
  where
    j : RunState
    j = run_state_after s k row

    d : CarriedBytes
    d = carried_here j id

    none : message_in k.story.bus_state.dialogue c true ≡ None
    none = in_none k c into

    x : Crossed k j
    x = crossed s k row n c l id g ep en out

    same : SameFail (carried_here k id) d
    same = quiet_same s k row n c l id g en (out_none k c out) none

    answer : is_marked d ≡ is_marked (carried_here k id)
    answer = answers_stay s k row n c true l g.row_is en g.link_is g.undoes (λ z. wrong' (sym ep ∙ z)) id

    go : LinkAfter s k.story l (message_out k.story.bus_state.dialogue c true)
        (message_in k.story.bus_state.dialogue c true) j.story.link
        → FailTalk j m d
    go (says y e z) = none_some y (sym (out_none k c out) ∙ e)
    go (hears y e f z) = none_some y (sym none ∙ f)
    go (stays e f z) =
        subst (λ (y : Link). FailTalk j y d) (same_Some l m (sym z ∙ em))
        (record {
          unbegun = λ u. wrong (sym (x.begun ∙ b) ∙ u);
          begun = λ u. subst (FailsBy l d j.exchange.plan j.exchange.speech.words j.handshakes.requests)
              (sym x.phase) (by_exchange l d k.exchange.plan j.exchange.plan k.exchange.speech.words
              j.exchange.speech.words j.handshakes.requests (phase_of (bus_of k)) x.plan x.words
              (count_as l d k.exchange.plan k.exchange.speech.words k.handshakes.requests j.handshakes.requests
              (phase_of (bus_of k)) (λ e. absurd (apart e)) (fails_as l (carried_here k id) d k.exchange.plan
              k.exchange.speech.words k.handshakes.requests (phase_of (bus_of k)) same answer (h.begun b))));
        })

-- ---- in MESSAGE IN

pub in_fail : (s : ScenarioValue) (k : RunState) (row : Row) (n : Connection) (c : Change) (l m : Link) (id : ProcId)
    → FailRow s k row n c l id → changes_phase c ≡ false → is_some (receiver_in n c) ≡ true
    → is_message_out c.before ≡ false → phase_of (bus_of k) ≡ Phase.MessageIn
    → (run_state_after s k row).story.link ≡ Some m → k.exchange.begun ≡ true
    → (run_state_after s k row).handshakes.requests ≡ k.handshakes.requests + 1
    → (message_in k.story.bus_state.dialogue c true ≡ Some MsgIn.RestorePointers → l.item ≡ Some (process id))
    → (k.handshakes.requests ≡ 0 → is_short k.exchange.plan.messages.first ≡ true
    → message_in k.story.bus_state.dialogue c true ≡ k.exchange.plan.messages.first) → FailTalk k l (carried_here k id)
    → FailTalk (run_state_after s k row) m (carried_here (run_state_after s k row) id)
in_fail s k row n c l m id g ep en out here em b count named first h = record {
  unbegun = λ u. wrong (sym (x.begun ∙ b) ∙ u);
  begun = λ u. subst (FailsBy m d j.exchange.plan j.exchange.speech.words j.handshakes.requests) (sym (x.phase ∙ here))
      (by_exchange m d k.exchange.plan j.exchange.plan k.exchange.speech.words j.exchange.speech.words
      j.handshakes.requests Phase.MessageIn x.plan x.words (count_as m d k.exchange.plan k.exchange.speech.words
      (k.handshakes.requests + 1) j.handshakes.requests Phase.MessageIn (λ e. count)
      (gives_on l m own d k.exchange.plan k.handshakes.requests k.exchange.plan.next heard of first
      (subst (FailsBy l own k.exchange.plan k.exchange.speech.words k.handshakes.requests) here (h.begun b)))));
}
  where
    j : RunState
    j = run_state_after s k row

    own : CarriedBytes
    own = carried_here k id

    d : CarriedBytes
    d = carried_here j id

    heard : Option MsgIn
    heard = message_in k.story.bus_state.dialogue c true

    x : Crossed k j
    x = crossed s k row n c l id g ep en out

    answer : is_marked d ≡ is_marked own
    answer = answers_stay s k row n c true l g.row_is en g.link_is g.undoes (λ z. wrong' (sym ep ∙ z)) id

    carries : (y : MsgIn) → heard ≡ Some y → SameFail (carried_of (story_after_in s k.story l (Some y)).carried id) d
    carries y e = subst (λ (z : CarriedBytes). SameFail z d)
        (λ i. carried_of (if is_some (out_none k c out i) then story_after_out k.story l (out_none k c out i)
        else if is_some (e i) then story_after_in s k.story l (e i)
        else story_after_byte k.story l (reading_in k.story.bus_state n c true)).carried id)
        (row_carries s k row n c true l g.row_is en g.link_is id)

    undone : IsClear own → UndoesClear (carried_if k.story l.item)
    undone f = by g.item_is
      where
        by : (l.item ≡ Some (process id)) ⊎ ((l.item ≡ None) × (is_message (phase_of (bus_of k)) ≡ true))
            → UndoesClear (carried_if k.story l.item)
        by (inl e) = subst (λ (o : Option Item). UndoesClear (carried_if k.story o)) (sym e) f
        by (inr e) = subst (λ (o : Option Item). UndoesClear (carried_if k.story o)) (sym e.0) tt

    of : HearsOf l m own d heard
    of = by (link_crossed s k row n c l g.row_is en g.link_is)
      where
        by : LinkAfter s k.story l (message_out k.story.bus_state.dialogue c true) heard j.story.link
            → HearsOf l m own d heard
        by (says y e z) = none_some y (sym (out_none k c out) ∙ e)
        by (stays e f z) = record {
          none = λ w. (
            quiet_same s k row n c l id g en (out_none k c out) f,
            ap (λ (y : Link). y.undo) (same_Some m l (sym em ∙ z)),
          );
          some = λ y w. none_some y (sym f ∙ w);
          restored = λ w. none_some MsgIn.RestorePointers (sym f ∙ w);
          answer = answer;
        }
        by (hears y e f z) = record {
          none = λ w. none_some y (sym w ∙ f);
          some = λ v w. (
            λ q. clear_as _ d (carries y f) (in_clear s k.story l y id q),
            λ q. subst UndoesClear
                (sym (ap (λ (v : Link). v.undo) (same_Some m (heard_link s k.story l y) (sym em ∙ z)))) (undone q),
          );
          restored = λ w. clear_as _ d (carries MsgIn.RestorePointers w) (in_restores s k.story l id (named w));
          answer = answer;
        }
