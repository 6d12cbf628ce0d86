-- As an opening with an offer is left, the target goes to MESSAGE IN to answer it (6.6.21).
use Rattle.delivery_laws.proofs
use proofs.Names.{◌≡◌, Bool, true, false, not, ◌&&◌, ◌∙◌, List, ◌∷◌, ◌⊎◌, Option, Some, None, inl, inr, refl, sym, ap}
use proofs.Names.{if◌then◌else◌, is_some, wrong, wrong', change_of, LineSet, changes_phase, is_message_out, connection}
use proofs.Names.{connection_after, bus, Row, Agreement, Change, Connection, ScenarioValue, Obeys, TargetDef}
use proofs.Names.{RowReading, row_reading, one_message, struck_plan, message_out_leaving, after_offer, bus_free}
use proofs.Names.{leaving_by, message_in_entry, phase_leaving, phase_of, plan_after, plan_in_phase, plan_with_byte}
use proofs.Names.{reply_to, Cause, Hearing, Leaving, Next, Phase, Plan, run_state_plain, target_def_of, IsPrompt}
use proofs.Names.{IsPlain, RunState, exchange_after, leaving_of, run_state, hearing_of, leaving, serving_at}
use proofs.Names.{change_plain, least_is, none_some, plan_left, not_out, whole, plan_at, IsLeaving, phase_after}
use proofs.Recoveries.Rows.{leaves_as_due}

-- ---- where it goes, by the phase

-- As the target is due to leave this phase.
pub goes_by : (s : ScenarioValue) (p : List Row) (row : Row) (n : Connection) (phase : Phase)
    → Obeys s → IsPrompt s (row ∷ p) → IsLeaving p row n → phase_of (bus p) ≡ phase
    → leaving s (run_state s p) n.target ≡ phase_leaving (serving_at s (run_state s p) n.target phase) (bus p).atn phase
goes_by s p row n phase o prompt w e =
    let k : RunState = run_state s p in
    let pl : IsPlain s p k = run_state_plain s p (whole s p o prompt.0).stood.standing.devices in
    (λ i. leaving_by (serving_at s k n.target (phase_of (pl.bus i))) ((pl.begun ∙ w.begun_is) i) (pl.bus i))
    ∙ (λ i. phase_leaving (serving_at s k n.target (e i)) (bus p).atn (e i))

-- ---- what is planned as MESSAGE IN begins

some_after : (p : List Row) (row : Row) (x : Phase) → phase_after p row ≡ Some x → is_some (connection (row ∷ p)) ≡ true
some_after p row x e = go (connection (row ∷ p)) e
  where
    go : (c : Option Connection) → (if is_some c then Some (phase_of (bus (row ∷ p))) else None) ≡ Some x
        → is_some c ≡ true
    go None z = none_some x z
    go (Some c) z = refl

planned_in : (w : Hearing) (l : Leaving) (a : Plan) → changes_phase w.change ≡ true
    → is_message_out w.change.after ≡ false → (plan_after w l a).messages ≡ l.messages
planned_in w l a turns other = (λ i. (if turns i then plan_in_phase w l a else if w.crosses then plan_with_byte w a
    else if w.fault && not w.change.before.io then struck_plan a else a).messages)
    ∙ ap (λ (x : Plan). x.messages) (plan_left w l a other)

pub planned_for : (s : ScenarioValue) (p : List Row) (row : Row) (n : Connection) → Obeys s
    → IsPrompt s (row ∷ p) → IsLeaving p row n → phase_after p row ≡ Some Phase.MessageIn
    → (plan_at s (row ∷ p)).messages ≡ (leaving s (run_state s p) n.target).messages
planned_for s p row n o prompt w e = by (connection (row ∷ p)) refl
  where
    k : RunState
    k = run_state s p

    d : RowReading
    d = row_reading k.story.bus_state row

    pl : IsPlain s p k
    pl = run_state_plain s p (whole s p o prompt.0).stood.standing.devices

    change : d.change ≡ change_of p row
    change = change_plain s row p (whole s p o prompt.0).stood.standing.devices (least_is s p row prompt.1).inside

    here : k.story.bus_state.connection ≡ Some n
    here = pl.connection ∙ w.stands

    phase_is : phase_of (bus (row ∷ p)) ≡ Phase.MessageIn
    phase_is = go (connection (row ∷ p)) e
      where
        some_is : (x y : Phase) → Some x ≡ Some y → x ≡ y
        some_is x y z = cc

        go : (c : Option Connection)
            → (if is_some c then Some (phase_of (bus (row ∷ p))) else None) ≡ Some Phase.MessageIn
            → phase_of (bus (row ∷ p)) ≡ Phase.MessageIn
        go None z = none_some Phase.MessageIn z
        go (Some c) z = some_is (phase_of (bus (row ∷ p))) Phase.MessageIn z

    turns : (c : Connection) → connection (row ∷ p) ≡ Some c → changes_phase d.change ≡ true
    turns c f = of w.leaves
      where
        of : (changes_phase (change_of p row) ≡ true) ⊎ (connection (row ∷ p) ≡ None) → changes_phase d.change ≡ true
        of (inl z) = ap changes_phase change ∙ z
        of (inr z) = none_some c (sym z ∙ f)

    by : (x : Option Connection) → connection (row ∷ p) ≡ x
        → (plan_at s (row ∷ p)).messages ≡ (leaving s k n.target).messages
    by None f = wrong (sym (some_after p row Phase.MessageIn e) ∙ ap (λ (c : Option Connection). is_some c) f)
    by (Some c) f = (λ i. (exchange_after s k row d (here i)
        (((λ j. connection_after (pl.connection j) (pl.call j) (change j) row) ∙ f) i)
        (leaving_of s k (here i))).plan.messages)
        ∙ planned_in (hearing_of k row d) (leaving s k n.target) k.exchange.plan (turns c f)
        (ap (λ (y : Change). is_message_out y.after) change ∙ not_out (bus (row ∷ p)) phase_is)

-- ---- the answer to an offer

pub offer_answered : (s : ScenarioValue) (p : List Row) (row : Row) (n : Connection) (offer : Agreement)
    → Obeys s → IsPrompt s (row ∷ p) → IsLeaving p row n → phase_of (bus p) ≡ Phase.MessageOut
    → (plan_at s p).cause ≡ Cause.Selected → (plan_at s p).said.aborts ≡ None → (plan_at s p).said.offer ≡ Some offer
    → (phase_after p row ≡ Some Phase.MessageIn)
    × ((plan_at s (row ∷ p)).messages ≡ one_message (reply_to (target_def_of s n.target) offer))
offer_answered s p row n offer o prompt w e selected none offers =
    let def : Option TargetDef = target_def_of s n.target in
    let plan : Plan = plan_at s p in
    let goes : leaving s (run_state s p) n.target ≡ message_in_entry (one_message (reply_to def offer)) Next.Command =
    goes_by s p row n Phase.MessageOut o prompt w e
    ∙ (λ i. message_out_leaving (serving_at s (run_state s p) n.target Phase.MessageOut) (selected i))
    ∙ (λ i. if is_some (none i) then bus_free else after_offer def plan.negotiates (offers i)) in
    let next : phase_after p row ≡ Some Phase.MessageIn = sym (leaves_as_due s p row n o prompt w)
    ∙ ap (λ (l : Leaving). l.to) goes in
    (next, planned_for s p row n o prompt w next ∙ ap (λ (l : Leaving). l.messages) goes)
