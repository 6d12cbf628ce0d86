-- What MESSAGE PARITY ERROR brings back agrees with what the process has: a phase is left for another (6.6.13).
use Rattle.story_laws.proofs
use proofs.Names.{inl, inr, ℕ, ◌≡◌, ◌⊎◌, Bool, true, false, ◌==◌, ◌∙◌, Option, Some, None, refl, sym, ap, subst}
use proofs.Names.{if◌then◌else◌, is_some, wrong, wrong', LineSet, changes_phase, is_command, is_message_out}
use proofs.Names.{is_message_in, is_fault, receiver_in, Row, Change, Connection, Handshakes, no_handshakes}
use proofs.Names.{handshakes_after, ScenarioValue, row_reading, CarriedBytes, Link, is_status_next, Exchange, Serving}
use proofs.Names.{phase_of, phase_leaving, leaving_by, cause_after, plan_in_phase, Cause, Leaving, Messages, Phase}
use proofs.Names.{Plan, RunState, bus_of, run_state_after, serving_of, leaving, hearing_of, command_is}
use proofs.Names.{is_command_phase, InConnection, in_connection, LeavesWhole, reading_in, Speaks, GoesOn, out_lines}
use proofs.Names.{out_phase, in_phase, plan_left, plan_out, by_bool, is_to_message_in, leaves_short, is_detected}
use proofs.{Names.{UndoesSame, UndoFits, UndoAsked, UndoBy, UndoBooks, is_short}, Tells.Turns.{status_lines}}
use proofs.Undone.{Answers.{asked_fits}, Rows.{IsKeptInside, fits_on}}

-- ---- a phase is left for another

pub not_out : (b : LineSet) → phase_of b ≡ Phase.MessageIn → is_message_out b ≡ false
not_out b e = by_bool (is_message_out b) (λ f. wrong' (ap is_in (sym (out_phase b f) ∙ e))) (λ f. f)
  where
    is_in : Phase → Bool
    is_in Phase.MessageIn = true
    is_in _ = false

pub detecting : (fits : Type 0) (before : LineSet) → is_message_in before ≡ false → UndoAsked fits (cause_after before)
detecting fits before e = subst (UndoAsked fits)
    (ap (λ (q : Bool). if q then Cause.InMessage else if before.cd then Cause.InStatus else Cause.InData) (sym e))
    (go before.cd)
  where
    go : (q : Bool) → UndoAsked fits (if q then Cause.InStatus else Cause.InData)
    go true = tt
    go false = tt

pub record TurnOf (s : ScenarioValue) (k : RunState) (row : Row) (n : Connection) (c : Change) (l : Link) : Type 0 where
  pub goes : GoesOn s k row n c
  pub lines : is_fault row.kind ≡ false
  pub turns : changes_phase c ≡ true
  pub silent : receiver_in n c ≡ None
  pub link_is : k.story.link ≡ Some l
  pub known : c.after.msg ≡ true → c.after.cd ≡ true
  pub idle : k.exchange.begun ≡ false → is_command (bus_of k) ≡ false
  pub whereto : k.exchange.begun ≡ true → (leaving s k n.target).to ≡ Some (phase_of c.after)
  pub speaks : Speaks s k n

pub turn_keeps : {A : Type 0} (what : CarriedBytes → A) → IsKeptInside what
    → (s : ScenarioValue) (k : RunState) (row : Row) (n : Connection) (c : Change) (l : Link) → TurnOf s k row n c l
    → UndoesSame what k row → UndoBooks what k → UndoBooks what (run_state_after s k row)
turn_keeps what kept s k row n c l t undoes h = record {
  unbegun = λ b. wrong (sym begun ∙ b);
  begun = λ b. go k.exchange.begun refl;
}
  where
    j : RunState
    j = run_state_after s k row

    none : is_some (receiver_in n c) ≡ false
    none = ap (λ (z : Option ℕ). is_some z) t.silent

    i : InConnection s k row n c true false false
    i = in_connection s k row n c true false false t.goes.row_is t.turns none t.lines

    begun : j.exchange.begun ≡ true
    begun = ap (λ (x : Exchange). x.begun) i.exchange_is

    v : Serving
    v = serving_of s k n.target

    plan : j.exchange.plan ≡ plan_in_phase (hearing_of k row (reading_in k.story.bus_state n c false))
        (leaving s k n.target) k.exchange.plan
    plan = ap (λ (x : Exchange). x.plan) i.exchange_is

    asked : j.handshakes.requests ≡ 0
    asked = ap (λ (x : Handshakes). x.requests) i.handshakes_is
        ∙ ap (λ (q : Bool). (handshakes_after q (Some n) c row.time k.handshakes).requests) t.lines
        ∙ ap (λ (q : Bool). (if q then no_handshakes else Rattle.due_model.specs.bus_lines.specs.Handshakes.answered_if
        (Rattle.due_model.specs.bus_trace.specs.Changes.rises c.before.ack c.after.ack) row.time
        (Rattle.due_model.specs.bus_lines.specs.Handshakes.asked_if
        (Rattle.due_model.specs.bus_trace.specs.Changes.rises c.before.req c.after.req) row.time
        k.handshakes)).requests) t.turns

    change : changes_phase (row_reading k.story.bus_state row).change ≡ true
    change = ap changes_phase t.goes.row_is.change_is ∙ t.turns

    leaves : LeavesWhole s k n
    leaves = t.goes.leaves change

    quiet : is_command (bus_of k) ≡ false → is_status_next (Some (phase_of c.after)) ≡ false → UndoFits what k
        → UndoFits what j
    quiet e f = fits_on what s k row n c false l t.goes.row_is none t.link_is
        (kept.stays s k row n c false l t.goes.row_is none t.link_is undoes
        (λ z. (ap is_command (sym t.goes.row_is.bus_is) ∙ e, sym (status_lines c.after) ∙ f)) (λ z. wrong' z))

    at : (phase : Phase) → phase_of c.after ≡ phase
        → UndoBy (UndoFits what j) j.exchange.plan j.handshakes.requests phase
        → UndoBy (UndoFits what j) j.exchange.plan j.handshakes.requests (phase_of (bus_of j))
    at phase e w = subst (λ (y : Phase). UndoBy (UndoFits what j) j.exchange.plan j.handshakes.requests y)
        (sym (ap phase_of i.bus_is ∙ e)) w

    -- MESSAGE OUT begins
    first_out : k.exchange.begun ≡ false
        → UndoBy (UndoFits what j) j.exchange.plan j.handshakes.requests (phase_of (bus_of j))
    first_out b =
        let out : is_message_out c.after ≡ true =
        sym (ap (λ (x : Change). is_message_out x.after) t.goes.row_is.change_is) ∙ t.goes.first change b in
        let cause : j.exchange.plan.cause ≡ Cause.Selected = ap (λ (x : Plan). x.cause) plan
        ∙ ap (λ (x : Plan). x.cause) (plan_out (hearing_of k row (reading_in k.story.bus_state n c false))
        (leaving s k n.target) k.exchange.plan out b) ∙ (t.speaks.before_all b).cause_is in
        at Phase.MessageOut (out_phase c.after out) (subst (UndoAsked (UndoFits what j)) (sym cause)
        (quiet (t.idle b) (ap (λ (y : Phase). is_status_next (Some y)) (out_phase c.after out)) (h.unbegun b)))

    refused : k.exchange.begun ≡ true → phase_of c.after ≡ Phase.MessageOut
        → UndoAsked (UndoFits what j) j.exchange.plan.cause
    refused b e =
        let out = out_lines c.after e t.known in
        let cause : j.exchange.plan.cause ≡ cause_after c.before = ap (λ (x : Plan). x.cause) plan
        ∙ ap (λ (x : Plan). x.cause) (plan_out (hearing_of k row (reading_in k.story.bus_state n c false))
        (leaving s k n.target) k.exchange.plan out b) in
        subst (UndoAsked (UndoFits what j)) (sym cause) (by (is_message_in c.before) refl)
      where
        by : (q : Bool) → is_message_in c.before ≡ q → UndoAsked (UndoFits what j) (cause_after c.before)
        by false f = detecting (UndoFits what j) c.before f
        by true f =
            let here : phase_of (bus_of k) ≡ Phase.MessageIn = ap phase_of t.goes.row_is.bus_is ∙ in_phase c.before f in
            subst (UndoAsked (UndoFits what j))
            (ap (λ (q : Bool). if q then Cause.InMessage else if c.before.cd then Cause.InStatus else Cause.InData)
            (sym f)) (given here
            (subst (λ (y : Phase). UndoBy (UndoFits what k) k.exchange.plan k.handshakes.requests y) here (h.begun b)))
          where
            given : phase_of (bus_of k) ≡ Phase.MessageIn
                → UndoFits what k ⊎ ((k.handshakes.requests ≡ 0) × (is_short k.exchange.plan.messages.first ≡ true))
                → UndoFits what j
            given here (inl w) = quiet (command_is (bus_of k) ∙ ap is_command_phase here)
                (ap (λ (y : Phase). is_status_next (Some y)) e) w
            given here (inr w) = wrong (sym (ap (λ (x : ℕ). x == 0) w.0) ∙ leaves.some here)

    heard : k.exchange.begun ≡ true → phase_of c.after ≡ Phase.MessageIn
        → UndoFits what j ⊎ ((j.handshakes.requests ≡ 0) × (is_short j.exchange.plan.messages.first ≡ true))
    heard b e = by (phase_of (bus_of k)) refl
      where
        leaving_is : leaving s k n.target ≡ phase_leaving v (bus_of k).atn (phase_of (bus_of k))
        leaving_is = λ z. leaving_by v (b z) (bus_of k)

        messages : j.exchange.plan.messages ≡ (phase_leaving v (bus_of k).atn (phase_of (bus_of k))).messages
        messages = ap (λ (x : Plan). x.messages) plan
            ∙ ap (λ (x : Plan). x.messages) (plan_left (hearing_of k row (reading_in k.story.bus_state n c false))
            (leaving s k n.target) k.exchange.plan (not_out c.after e))
            ∙ ap (λ (x : Leaving). x.messages) leaving_is

        to : is_to_message_in (phase_leaving v (bus_of k).atn (phase_of (bus_of k))).to ≡ true
        to = ap (λ (x : Leaving). is_to_message_in x.to) (sym leaving_is)
            ∙ ap is_to_message_in (t.whereto b ∙ ap (λ (y : Phase). Some y) e)

        short : (phase_of (bus_of k) ≡ Phase.MessageOut → is_detected k.exchange.plan.cause ≡ true)
            → UndoFits what j ⊎ ((j.handshakes.requests ≡ 0) × (is_short j.exchange.plan.messages.first ≡ true))
        short f = inr (
          asked,
          ap (λ (m : Messages). is_short m.first) messages ∙ leaves_short v (bus_of k).atn (phase_of (bus_of k)) f to,
        )

        is_out : Phase → Bool
        is_out Phase.MessageOut = true
        is_out _ = false

        said : phase_of (bus_of k) ≡ Phase.MessageOut → (q : Bool) → is_detected k.exchange.plan.cause ≡ q
            → UndoFits what j ⊎ ((j.handshakes.requests ≡ 0) × (is_short j.exchange.plan.messages.first ≡ true))
        said here true f = short (λ z. f)
        said here false f = inl (quiet (command_is (bus_of k) ∙ ap is_command_phase here)
            (ap (λ (y : Phase). is_status_next (Some y)) e) (asked_fits (UndoFits what k) k.exchange.plan.cause f
            (subst (λ (y : Phase). UndoBy (UndoFits what k) k.exchange.plan k.handshakes.requests y) here (h.begun b))))

        by : (y : Phase) → phase_of (bus_of k) ≡ y
            → UndoFits what j ⊎ ((j.handshakes.requests ≡ 0) × (is_short j.exchange.plan.messages.first ≡ true))
        by Phase.MessageOut z = said z (is_detected k.exchange.plan.cause) refl
        by _ z = short (λ w. wrong' (ap is_out (sym z ∙ w)))

    go : (q : Bool) → k.exchange.begun ≡ q
        → UndoBy (UndoFits what j) j.exchange.plan j.handshakes.requests (phase_of (bus_of j))
    go false b = first_out b
    go true b = by (phase_of c.after) refl
      where
        by : (y : Phase) → phase_of c.after ≡ y
            → UndoBy (UndoFits what j) j.exchange.plan j.handshakes.requests (phase_of (bus_of j))
        by Phase.MessageOut e = at Phase.MessageOut e (refused b e)
        by Phase.MessageIn e = at Phase.MessageIn e (heard b e)
        by Phase.Command e = at Phase.Command e tt
        by Phase.DataIn e = at Phase.DataIn e tt
        by Phase.DataOut e = at Phase.DataOut e tt
        by Phase.Status e = at Phase.Status e tt
