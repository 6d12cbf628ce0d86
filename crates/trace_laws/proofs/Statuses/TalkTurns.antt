-- Where COMMAND COMPLETE is said, its process has carried a byte of STATUS: as a phase is left for another.
use Rattle.trace_laws.proofs
use proofs.Names.{inl, inr, ℕ, ◌≡◌, ◌⊎◌, Bool, true, false, not, ◌&&◌, ◌==◌, ◌∙◌, List, Option, Some, refl, sym, ap}
use proofs.Names.{subst, same_Some, if◌then◌else◌, ◌-◌, is_some, wrong, wrong', ProcId, rises, LineSet, changes_phase}
use proofs.Names.{is_data, is_message_in, is_message_out, receiver_in, Row, Change, Connection, Handshakes}
use proofs.Names.{no_handshakes, handshakes_after, asked_if, answered_if, MsgIn, ScenarioValue, row_reading, Link}
use proofs.Names.{follows_by, Exchange, one_message, from_byte, plan_anew, Serving, phase_of, phase_leaving, leaving_by}
use proofs.Names.{follows_in, cause_after, plan_in_message_out, plan_in_phase, Cause, Leaving, Phase, Plan, RunState}
use proofs.Names.{bus_of, carried_here, run_state_after, serving_of, leaving, hearing_of, InConnection, in_connection}
use proofs.Names.{LeavesWhole, IsOver, reading_in, in_phase, out_lines, plan_left, plan_out, some_zero, is_in_message}
use proofs.Names.{link_still, TurnOf, not_out, LastGiven, HasStatus, UndoesStatus, CarriesBy}
use proofs.Statuses.{Leavings.{Completes, in_status, refused, completes_from, left_alone}, Talks.{TalksOf, status_kept}}
use proofs.Statuses.Talks.{quiet}

-- MESSAGE OUT answers a message where MESSAGE IN was left.
from_in : (b : LineSet) → cause_after b ≡ Cause.InMessage → is_message_in b ≡ true
from_in b e = go (is_message_in b) b.cd e
  where
    go : (q d : Bool) → (if q then Cause.InMessage else if d then Cause.InStatus else Cause.InData) ≡ Cause.InMessage
        → q ≡ true
    go true d z = refl
    go false true z = wrong' (ap is_in_message z)
    go false false z = wrong' (ap is_in_message z)

-- STATUS is left after a byte.
status_given : (s : ScenarioValue) (k : RunState) (n : Connection) → phase_of (bus_of k) ≡ Phase.Status → IsOver s k n
    → (k.handshakes.requests == 0) ≡ false
status_given s k n e over = sym (ap (λ (q : Bool). follows_by (serving_of s k n.target) q (bus_of k) k.handshakes)
    (no_data k.exchange.begun (bus_of k) _ e) ∙ ap (follows_in (serving_of s k n.target) k.handshakes (bus_of k).atn) e)
    ∙ over.follows
  where
    is_status : Phase → Bool
    is_status Phase.Status = true
    is_status _ = false

    no_data : (q : Bool) (b : LineSet) (r : Bool) → phase_of b ≡ Phase.Status → (q && is_data b && r) ≡ false
    no_data q b r f = go q b.msg b.cd b.io (ap is_status f)
      where
        go : (q m d i : Bool) → is_status (if m then (if i then Phase.MessageIn else Phase.MessageOut)
            else if d then (if i then Phase.Status else Phase.Command) else if i then Phase.DataIn else Phase.DataOut)
            ≡ true → (q && (not m && not d) && r) ≡ false
        go false m d i z = refl
        go true true d i z = refl
        go true false true i z = refl
        go true false false true z = wrong' z
        go true false false false z = wrong' z

pub turn_talk : (s : ScenarioValue) (k : RunState) (row : Row) (n : Connection) (c : Change) (l m : Link) (id : ProcId)
    → TurnOf s k row n c l → (k.exchange.begun ≡ true → IsOver s k n)
    → (k.exchange.begun ≡ true → phase_of (bus_of k) ≡ Phase.MessageIn
    → LastGiven l k.exchange.plan.messages k.exchange.plan.next k.handshakes.requests)
    → (run_state_after s k row).story.link ≡ Some m → (k.exchange.begun ≡ true → TalksOf k l id)
    → TalksOf (run_state_after s k row) m id
turn_talk s k row n c l m id t over last em h = subst (λ (x : Link). TalksOf j x id)
    (same_Some l m (sym (link_still s k row n c l t.goes.row_is none t.link_is) ∙ em))
    (subst (λ (b : LineSet). CarriesBy l bytes j.exchange.plan j.handshakes.requests (phase_of b)) (sym i.bus_is)
    (go (phase_of c.after) refl))
  where
    j : RunState
    j = run_state_after s k row

    bytes : List ℕ
    bytes = (carried_here j id).status.bytes

    none : is_some (receiver_in n c) ≡ false
    none = ap (λ (z : Option ℕ). is_some z) t.silent

    i : InConnection s k row n c true false false
    i = in_connection s k row n c true false false t.goes.row_is t.turns none t.lines

    v : Serving
    v = serving_of s k n.target

    asked : j.handshakes.requests ≡ 0
    asked = ap (λ (x : Handshakes). x.requests) i.handshakes_is
        ∙ ap (λ (q : Bool). (handshakes_after q (Some n) c row.time k.handshakes).requests) t.lines
        ∙ ap (λ (q : Bool). (if q then no_handshakes else answered_if (rises c.before.ack c.after.ack) row.time
        (asked_if (rises c.before.req c.after.req) row.time k.handshakes)).requests) t.turns

    change : changes_phase (row_reading k.story.bus_state row).change ≡ true
    change = ap changes_phase t.goes.row_is.change_is ∙ t.turns

    leaves : LeavesWhole s k n
    leaves = t.goes.leaves change

    kept : HasStatus (carried_here k id).status.bytes → HasStatus bytes
    kept = status_kept s k row l id t.link_is (quiet k row n c false l t.goes.row_is none (inl refl))

    plan : j.exchange.plan ≡ plan_in_phase (hearing_of k row (reading_in k.story.bus_state n c false))
        (leaving s k n.target) k.exchange.plan
    plan = ap (λ (x : Exchange). x.plan) i.exchange_is

    out_plan : is_message_out c.after ≡ true → (q : Bool) → k.exchange.begun ≡ q → j.exchange.plan
        ≡ (if q then plan_in_message_out (hearing_of k row (reading_in k.story.bus_state n c false)) k.exchange.plan
        else plan_anew k.exchange.plan)
    out_plan out q b = plan ∙ plan_out (hearing_of k row (reading_in k.story.bus_state n c false))
        (leaving s k n.target) k.exchange.plan out b

    else_plan : is_message_out c.after ≡ false → j.exchange.plan ≡ record (plan_anew k.exchange.plan) {
      messages = (leaving s k n.target).messages;
      next = (leaving s k n.target).next;
    }
    else_plan out = plan ∙ plan_left (hearing_of k row (reading_in k.story.bus_state n c false))
        (leaving s k n.target) k.exchange.plan out

    leaving_is : k.exchange.begun ≡ true → leaving s k n.target ≡ phase_leaving v (bus_of k).atn (phase_of (bus_of k))
    leaving_is b = λ z. leaving_by v (b z) (bus_of k)

    was : k.exchange.begun ≡ true → (x : Phase) → phase_of (bus_of k) ≡ x
        → CarriesBy l (carried_here k id).status.bytes k.exchange.plan k.handshakes.requests x
    was b x e = subst (CarriesBy l (carried_here k id).status.bytes k.exchange.plan k.handshakes.requests) e (h b)

    -- MESSAGE OUT follows
    refuses : k.exchange.begun ≡ true → phase_of c.after ≡ Phase.MessageOut
        → CarriesBy l bytes j.exchange.plan j.handshakes.requests Phase.MessageOut
    refuses b e ec em = (kept w.0, undone w.1)
      where
        g : j.exchange.plan
            ≡ plan_in_message_out (hearing_of k row (reading_in k.story.bus_state n c false)) k.exchange.plan
        g = out_plan (out_lines c.after e t.known) true b

        lines : is_message_in c.before ≡ true
        lines = from_in c.before (sym (ap (λ (x : Plan). x.cause) g) ∙ ec)

        here : phase_of (bus_of k) ≡ Phase.MessageIn
        here = ap phase_of t.goes.row_is.bus_is ∙ in_phase c.before lines

        left : from_byte k.exchange.plan.messages (k.handshakes.requests - 1) ≡ one_message MsgIn.CommandComplete
        left = ap (λ (q : Bool). if q then from_byte k.exchange.plan.messages (k.handshakes.requests - 1)
            else k.exchange.plan.messages) (sym lines) ∙ sym (ap (λ (x : Plan). x.messages) g) ∙ em

        w : HasStatus (carried_here k id).status.bytes × ((k.handshakes.requests ≡ 0) ⊎ UndoesStatus l.undo)
        w = was b Phase.MessageIn here (left_alone l k.exchange.plan.messages k.exchange.plan.next k.handshakes.requests
            (k.handshakes.requests - 1) (last b here) left)

        undone : (k.handshakes.requests ≡ 0) ⊎ UndoesStatus l.undo → UndoesStatus l.undo
        undone (inl z) = some_zero k.handshakes.requests (leaves.some here) z
        undone (inr z) = z

    first_out : k.exchange.begun ≡ false → phase_of c.after ≡ Phase.MessageOut
        → CarriesBy l bytes j.exchange.plan j.handshakes.requests Phase.MessageOut
    first_out b e ec em =
        wrong' (sym (ap is_in_message (ap (λ (x : Plan). x.cause) (out_plan (out_lines c.after e t.known) false b)
        ∙ (t.speaks.before_all b).cause_is)) ∙ ap is_in_message ec)

    -- MESSAGE IN follows
    gives : k.exchange.begun ≡ true → phase_of c.after ≡ Phase.MessageIn
        → CarriesBy l bytes j.exchange.plan j.handshakes.requests Phase.MessageIn
    gives b e em = (kept (by (completes_from v (bus_of k).atn (phase_of (bus_of k)) to messages)), inl asked)
      where
        to : (phase_leaving v (bus_of k).atn (phase_of (bus_of k))).to ≡ Some Phase.MessageIn
        to = sym (ap (λ (x : Leaving). x.to) (leaving_is b)) ∙ t.whereto b ∙ ap (λ (x : Phase). Some x) e

        messages : (phase_leaving v (bus_of k).atn (phase_of (bus_of k))).messages ≡ one_message MsgIn.CommandComplete
        messages = sym (ap (λ (x : Leaving). x.messages) (leaving_is b))
            ∙ sym (ap (λ (x : Plan). x.messages) (else_plan (not_out c.after e))) ∙ em

        by : Completes v (phase_of (bus_of k)) → HasStatus (carried_here k id).status.bytes
        by (in_status f) = was b Phase.Status f (status_given s k n f (over b))
        by (refused f ec f') = (was b Phase.MessageOut f ec f').0

    no_first : {A : Type 0} → k.exchange.begun ≡ false → phase_of c.after ≡ Phase.MessageIn → A
    no_first b e =
        wrong (sym (sym (ap (λ (x : Change). is_message_out x.after) t.goes.row_is.change_is) ∙ t.goes.first change b)
        ∙ not_out c.after e)

    by_begun : (q : Bool) → k.exchange.begun ≡ q → (phase_of c.after ≡ Phase.MessageOut
        → CarriesBy l bytes j.exchange.plan j.handshakes.requests Phase.MessageOut)
        × (phase_of c.after ≡ Phase.MessageIn → CarriesBy l bytes j.exchange.plan j.handshakes.requests Phase.MessageIn)
    by_begun true b = (refuses b, gives b)
    by_begun false b = (first_out b, λ e. no_first b e)

    go : (x : Phase) → phase_of c.after ≡ x → CarriesBy l bytes j.exchange.plan j.handshakes.requests x
    go Phase.MessageOut e = (by_begun k.exchange.begun refl).0 e
    go Phase.MessageIn e = (by_begun k.exchange.begun refl).1 e
    go Phase.Status e = λ some. some_zero j.handshakes.requests some asked
    go _ e = tt
