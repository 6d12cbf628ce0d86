-- What MESSAGE PARITY ERROR brings back agrees with what the process has: where it may come, and as a phase stays
-- (6.6.13).
use Rattle.story_laws.proofs
use proofs.Names.{inl, inr, ℕ, ◌≡◌, ◌⊎◌, Bool, true, false, not, ◌&&◌, ◌%◌, ◌∙◌, [], ◌∷◌, ◌++◌, Option, Some, None}
use proofs.Names.{refl, sym, ap, subst, if◌then◌else◌, is_some, wrong, wrong', LineSet, changes_phase, is_message_out}
use proofs.Names.{is_fault, receiver_in, receiver_of, Row, Change, Connection, got_out, MsgOut, fresh_bytes}
use proofs.Names.{ScenarioValue, RowReading, row_reading, whole_out, message_out, CarriedBytes, Link, Exchange}
use proofs.Names.{next_word, plan_after_message, struck_plan, phase_of, detected_error, Cause, Messages, Phase, Plan}
use proofs.Names.{RunState, bus_of, carried_here, run_state_after, is_message, InConnection, in_connection}
use proofs.Names.{same_phase_is, reading_is, IsRowIn, AreWordsFor, rejects_data, rejects_status, Speaks, GoesOn, RowOf}
use proofs.Names.{row_apart, begins, goes_on, under_reset, Books, none_some, out_phase, by_bool, is_detected}
use proofs.{Names.{UndoesSame, UndoFits, UndoAsked, UndoBy, UndoBooks, is_short}, Commands.Counts.{is_refusal}}
use proofs.{Commands.Counts.{error_said}, Undone.Rows.{IsKeptInside, fits_on}}
use Rattle.row_laws.specs.book_laws.specs.Traces.{ends}

-- ---- in which phases MESSAGE PARITY ERROR may come

-- After data and status it is INITIATOR DETECTED ERROR that is said.
pub detects : (s : ScenarioValue) (k : RunState) (n : Connection) (c : Change) → Speaks s k n → k.exchange.begun ≡ true
    → bus_of k ≡ c.before → is_message_out c.before ≡ true → c.after.data_bits % 256 ≡ next_word k.exchange.speech
    → is_detected k.exchange.plan.cause ≡ true → is_refusal (message_out k.story.bus_state.dialogue c true) ≡ false
detects s k n c speaks b on out byte e =
    let w = speaks.in_message_out b (ap is_message_out on ∙ out) in
    (λ i. is_refusal
    (if out i then whole_out (got_out (fresh_bytes k.story.bus_state.dialogue ++ c.after.data_bits % 256 ∷ []))
    else None))
    ∙ error_said k.exchange.speech k.exchange.plan k.story.bus_state.dialogue (c.after.data_bits % 256) w.heard byte
    (words k.exchange.plan.cause e w.words_for)
  where
    words : (cause : Cause) → is_detected cause ≡ true → AreWordsFor s n k.served k.exchange cause
        → k.exchange.speech.words ≡ detected_error
    words _ z (rejects_data w) = w
    words _ z (rejects_status w) = w
    words _ z _ = wrong' z

pub asked_fits : (fits : Type 0) (cause : Cause) → is_detected cause ≡ false → UndoAsked fits cause → fits
asked_fits fits Cause.Selected e h = h
asked_fits fits Cause.InMessage e h = h
asked_fits fits Cause.InData e h = wrong e
asked_fits fits Cause.InStatus e h = wrong e

crosses_undoes :
    {A : Type 0} (what : CarriedBytes → A) (s : ScenarioValue) (k : RunState) (row : Row) (n : Connection) (c : Change)
    → GoesOn s k row n c → Speaks s k n → is_some (receiver_in n c) ≡ true → UndoBooks what k → UndoesSame what k row
crosses_undoes what s k row n c g speaks there h l m u el eo parity eu = go (is_message_out c.before) refl
  where
    out : message_out k.story.bus_state.dialogue c true ≡ Some m
    out = ap (λ (d : RowReading). d.out) (sym (reading_is k row n c true g.row_is there)) ∙ eo

    begun : k.exchange.begun ≡ true
    begun = g.begun (ap (λ (d : RowReading). d.crosses) (reading_is k row n c true g.row_is there))

    go : (q : Bool) → is_message_out c.before ≡ q → what u ≡ what (carried_here k u.id)
    go false e = none_some m (sym
        (λ i. if e i then whole_out (got_out (fresh_bytes k.story.bus_state.dialogue ++ c.after.data_bits % 256 ∷ []))
        else None) ∙ out)
    go true e =
        let here : UndoAsked (UndoFits what k) k.exchange.plan.cause = subst
        (λ (p : Phase). UndoBy (UndoFits what k) k.exchange.plan k.handshakes.requests p)
        (ap phase_of g.row_is.bus_is ∙ out_phase c.before e) (h.begun begun) in
        by (is_detected k.exchange.plan.cause) refl here
      where
        by : (q : Bool) → is_detected k.exchange.plan.cause ≡ q → UndoAsked (UndoFits what k) k.exchange.plan.cause
            → what u ≡ what (carried_here k u.id)
        by false z w = asked_fits (UndoFits what k) k.exchange.plan.cause z w l u el eu
        by true z w = wrong
            (sym parity ∙ ap is_refusal (sym out) ∙ detects s k n c speaks begun g.row_is.bus_is e (g.says e there).0 z)

silent_undoes : {A : Type 0} (what : CarriedBytes → A) (k : RunState) (row : Row)
    → (row_reading k.story.bus_state row).crosses ≡ false → UndoesSame what k row
silent_undoes what k row e l m u el eo parity eu = none_some m
    (sym (ap (λ (q : Bool). message_out k.story.bus_state.dialogue (row_reading k.story.bus_state row).change q) e)
    ∙ eo)

pub row_undoes : {A : Type 0} (what : CarriedBytes → A) (s : ScenarioValue) (k : RunState) (row : Row) → Books s k
    → ((n : Connection) → k.story.bus_state.connection ≡ Some n → (bus_of k).rst ≡ false → UndoBooks what k)
    → RowOf s k row → UndoesSame what k row
row_undoes what s k row books h (row_apart con next) = silent_undoes what k row
    (ap (λ (o : Option Connection). is_some (receiver_of o (row_reading k.story.bus_state row).change)) con)
row_undoes what s k row books h (begins n b) = silent_undoes what k row
    (ap (λ (o : Option Connection). is_some (receiver_of o (row_reading k.story.bus_state row).change))
    b.first.connection_is)
row_undoes what s k row books h (ends n e) = silent_undoes what k row e.carries_none
row_undoes what s k row books h (under_reset on none) = silent_undoes what k row none
row_undoes what s k row books h (goes_on n c g) = by_bool (is_some (receiver_in n c)) (λ e. crosses_undoes
    what s k row n c g (books.speaks n g.row_is.connection_is g.calm) e (h n g.row_is.connection_is g.calm))
    (λ e. silent_undoes what k row (ap (λ (d : RowReading). d.crosses) (reading_is k row n c false g.row_is e)))

-- ---- the phase stays

pub same_phase_of : (c : Change) → changes_phase c ≡ false → phase_of c.after ≡ phase_of c.before
same_phase_of c e =
    let s = same_phase_is c e in
    λ i. if s.msg i then (if s.io i then Phase.MessageIn else Phase.MessageOut)
    else if s.cd i then (if s.io i then Phase.Status else Phase.Command)
    else if s.io i then Phase.DataIn else Phase.DataOut

on_phase : (a b : Type 0) (p q : Plan) (x y : ℕ) (phase : Phase) → (is_message phase ≡ true → a → b) → q.cause ≡ p.cause
    → (phase ≡ Phase.MessageIn → x ≡ 0 → is_short p.messages.first ≡ true
    → b ⊎ ((y ≡ 0) × (is_short q.messages.first ≡ true))) → UndoBy a p x phase → UndoBy b q y phase
on_phase a b p q x y Phase.MessageOut f e g h = subst (UndoAsked b) (sym e) (asked p.cause h)
  where
    asked : (cause : Cause) → UndoAsked a cause → UndoAsked b cause
    asked Cause.Selected w = f refl w
    asked Cause.InMessage w = f refl w
    asked Cause.InData w = tt
    asked Cause.InStatus w = tt
on_phase a b p q x y Phase.MessageIn f e g (inl h) = inl (f refl h)
on_phase a b p q x y Phase.MessageIn f e g (inr h) = g refl h.0 h.1
on_phase a b p q x y Phase.Command f e g h = tt
on_phase a b p q x y Phase.DataIn f e g h = tt
on_phase a b p q x y Phase.DataOut f e g h = tt
on_phase a b p q x y Phase.Status f e g h = tt

-- The plan in a phase keeps its cause, and its messages.
pub record SamePlan (p q : Plan) : Type 0 where
  pub cause : q.cause ≡ p.cause
  pub messages : q.messages ≡ p.messages

pub plan_stays : (p : Plan) (now out last fault : Bool) (m : Option MsgOut)
    → SamePlan p (if now then (if out then plan_after_message p last m else p) else if fault then struck_plan p else p)
plan_stays p true true true fault m = record { cause = refl; messages = refl }
plan_stays p true true false fault m = record { cause = refl; messages = refl }
plan_stays p true false last fault m = record { cause = refl; messages = refl }
plan_stays p false out last true m = record { cause = refl; messages = refl }
plan_stays p false out last false m = record { cause = refl; messages = refl }

pub stays_by : {A : Type 0} (what : CarriedBytes → A) → IsKeptInside what
    → (s : ScenarioValue) (k : RunState) (row : Row) (n : Connection) (c : Change) (now : Bool) (l : Link)
    → IsRowIn k row n c → changes_phase c ≡ false → is_some (receiver_in n c) ≡ now → k.story.link ≡ Some l
    → UndoesSame what k row → (now ≡ true → k.exchange.begun ≡ true) → (k.exchange.begun ≡ true
    → phase_of (bus_of k) ≡ Phase.MessageIn → k.handshakes.requests ≡ 0 → is_short k.exchange.plan.messages.first ≡ true
    → UndoFits what (run_state_after s k row) ⊎ ((run_state_after s k row).handshakes.requests ≡ 0))
    → UndoBooks what k → UndoBooks what (run_state_after s k row)
stays_by what kept s k row n c now l r ep en link undoes crosses first h = record {
  unbegun = λ b. fits (λ z. wrong (sym (crosses z) ∙ sym begun ∙ b)) (h.unbegun (sym begun ∙ b));
  begun =
      λ b. subst (λ (p : Phase). UndoBy (UndoFits what j) j.exchange.plan j.handshakes.requests p) (sym phase) (on_phase
      (UndoFits what k) (UndoFits what j) k.exchange.plan j.exchange.plan k.handshakes.requests j.handshakes.requests
      (phase_of (bus_of k)) (λ z. fits (λ w. ap (λ (x : LineSet). x.msg) (sym r.bus_is) ∙ message (bus_of k) z))
      plan.cause (λ e zero short. told (first (sym begun ∙ b) e zero short) short) (h.begun (sym begun ∙ b)));
}
  where
    j : RunState
    j = run_state_after s k row

    i : InConnection s k row n c false now (is_fault row.kind)
    i = in_connection s k row n c false now (is_fault row.kind) r ep en refl

    begun : j.exchange.begun ≡ k.exchange.begun
    begun = ap (λ (x : Exchange). x.begun) i.exchange_is

    fits : (now ≡ true → c.before.msg ≡ true) → UndoFits what k → UndoFits what j
    fits silent = fits_on what s k row n c now l r en link
        (kept.stays s k row n c now l r en link undoes (λ z. wrong' (sym ep ∙ z)) silent)

    message : (b : LineSet) → is_message (phase_of b) ≡ true → b.msg ≡ true
    message b e = by b.msg b.cd b.io e
      where
        by : (m d o : Bool) → is_message (if m then (if o then Phase.MessageIn else Phase.MessageOut)
            else if d then (if o then Phase.Status else Phase.Command) else if o then Phase.DataIn else Phase.DataOut)
            ≡ true → m ≡ true
        by true d o z = refl
        by false true true z = wrong' z
        by false true false z = wrong' z
        by false false true z = wrong' z
        by false false false z = wrong' z

    phase : phase_of (bus_of j) ≡ phase_of (bus_of k)
    phase = ap phase_of i.bus_is ∙ same_phase_of c ep ∙ ap phase_of (sym r.bus_is)

    plan : SamePlan k.exchange.plan j.exchange.plan
    plan = subst (λ (x : Plan). SamePlan k.exchange.plan x) (sym (ap (λ (x : Exchange). x.plan) i.exchange_is))
        (plan_stays k.exchange.plan now (is_message_out c.before) k.story.bus_state.dialogue.is_last
        (is_fault row.kind && not c.before.io) (message_out k.story.bus_state.dialogue c now))

    told : UndoFits what j ⊎ (j.handshakes.requests ≡ 0) → is_short k.exchange.plan.messages.first ≡ true
        → UndoFits what j ⊎ ((j.handshakes.requests ≡ 0) × (is_short j.exchange.plan.messages.first ≡ true))
    told (inl w) short = inl w
    told (inr w) short = inr (w, ap (λ (m : Messages). is_short m.first) plan.messages ∙ short)
