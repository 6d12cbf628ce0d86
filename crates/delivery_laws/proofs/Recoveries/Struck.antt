-- In COMMAND and DATA OUT a target takes a phase for struck exactly where a fault row stands in it (6.6.19).
use Rattle.delivery_laws.proofs
use proofs.Names.{ℕ, ◌≡◌, Bool, true, false, not, ◌&&◌, ◌||◌, ◌∙◌, List, [], ◌∷◌, Option, Some, None, refl, sym, ap}
use proofs.Names.{inl, inr, not-true, cases_Bool, if◌then◌else◌, is_some, wrong, wrong', LineSet, changes_phase}
use proofs.Names.{is_message_out, is_fault, Row, Change, Connection, ScenarioValue, Obeys, RowReading, row_reading}
use proofs.Names.{struck_plan, plan_after_message, phase_of, plan_after, plan_in_phase, plan_with_byte, Hearing}
use proofs.Names.{Leaving, Phase, Plan, IsPrompt, RunState, bus_of, exchange_after, leaving_of, run_state, hearing_of}
use proofs.Names.{reading_is, IsRowIn, RowKind, crosses, still, strikes, turns, RowOf, apart, begins, ends, goes_on}
use proofs.Names.{under_reset, is_struck_phase, is_wrong_phase, same_phase_of, standing_next, whole}

abbrev is_taken : Phase → Bool
is_taken Phase.Command = true
is_taken Phase.DataOut = true
is_taken _ = false

taken_lines : (l : LineSet) → is_taken (phase_of l) ≡ true → (l.io ≡ false) × (is_message_out l ≡ false)
taken_lines l e = go l.msg l.cd l.io e
  where
    go : (m c i : Bool) → is_taken (if m then (if i then Phase.MessageIn else Phase.MessageOut)
        else if c then (if i then Phase.Status else Phase.Command) else if i then Phase.DataIn else Phase.DataOut)
        ≡ true → (i ≡ false) × ((m && c && not i) ≡ false)
    go true c true z = wrong' z
    go false true false z = (refl, refl)
    go false false false z = (refl, refl)
    go _ _ _ z = wrong' z

-- ---- one row

-- A fault row, with which no byte crosses; or it was struck before.
struck_on : (w : Hearing) (l : Leaving) (a : Plan) → changes_phase w.change ≡ false
    → (w.change.before.io ≡ false) × (is_message_out w.change.before ≡ false)
    → (w.fault ≡ true → w.crosses ≡ false) → (w.fault || a.struck) ≡ true → (plan_after w l a).struck ≡ true
struck_on w l a stays lines alone e =
    (λ i. (if stays i then plan_in_phase w l a else if w.crosses then plan_with_byte w a
    else if w.fault && not w.change.before.io then struck_plan a else a).struck)
    ∙ go w.crosses refl w.fault refl
  where
    go : (q : Bool) → w.crosses ≡ q → (r : Bool) → w.fault ≡ r
        → (if q then plan_with_byte w a else if r && not w.change.before.io then struck_plan a else a).struck ≡ true
    go true c true f = wrong (sym c ∙ alone f)
    go true c false f =
        (λ i. (if lines.1 i then plan_after_message a w.is_last w.out else a).struck) ∙ (λ i. sym f i || a.struck) ∙ e
    go false c true f = λ i. (if not (lines.0 i) then struck_plan a else a).struck
    go false c false f = (λ i. sym f i || a.struck) ∙ e

all_four : (a b c d : Bool) → (a && b && c && d) ≡ true → (a ≡ true) × ((b ≡ true) × ((c ≡ true) × (d ≡ true)))
all_four true true true true e = (refl, (refl, (refl, refl)))
all_four _ _ _ _ e = wrong' e

no_connection : {A : Type 0} (o : Option Connection) → o ≡ None → is_some o ≡ true → A
no_connection o e some = wrong (sym some ∙ ap (λ (x : Option Connection). is_some x) e)

-- ---- all rows of a prompt trace

struck_next : (s : ScenarioValue) (p : List Row) (row : Row) → Obeys s → IsPrompt s (row ∷ p)
    → (is_struck_phase s p ≡ true → is_taken (phase_of (bus_of (run_state s p))) ≡ true
    → (run_state s p).exchange.plan.struck ≡ true) → is_struck_phase s (row ∷ p) ≡ true
    → is_taken (phase_of (bus_of (run_state s (row ∷ p)))) ≡ true → (run_state s (row ∷ p)).exchange.plan.struck ≡ true
struck_next s p row o prompt more e taken = by k.story.bus_state.connection refl d.next refl
  where
    k : RunState
    k = run_state s p

    d : RowReading
    d = row_reading k.story.bus_state row

    four : (is_some k.story.bus_state.connection ≡ true) × ((is_some d.next ≡ true)
        × ((not (changes_phase d.change) ≡ true) × ((is_fault row.kind || is_struck_phase s p) ≡ true)))
    four = all_four (is_some k.story.bus_state.connection) (is_some d.next) (not (changes_phase d.change))
        (is_fault row.kind || is_struck_phase s p) e

    stays : changes_phase d.change ≡ false
    stays = not-true (changes_phase d.change) four.1.1.0

    -- the phase before is the same
    was : is_taken (phase_of (bus_of k)) ≡ true
    was = ap is_taken (sym (same_phase_of d.change stays)) ∙ taken

    crosses_none : is_fault row.kind ≡ true → d.crosses ≡ false
    crosses_none f = of (standing_next s p row o prompt (whole s p o prompt.0)).row_is
      where
        of_kind : (n : Connection) (c : Change) → IsRowIn k row n c → RowKind row n c → d.crosses ≡ false
        of_kind n c h (still g x y) = wrong (sym f ∙ g)
        of_kind n c h (strikes g x y) =
            ap (λ (r : RowReading). r.crosses) (reading_is k row n c false h (ap (λ (z : Option ℕ). is_some z) y))
        of_kind n c h (crosses dev g x y) = wrong (sym f ∙ g)
        of_kind n c h (turns g x y) = wrong (sym f ∙ g)

        of : RowOf s k row → d.crosses ≡ false
        of (apart x y) = no_connection k.story.bus_state.connection x four.0
        of (begins n g) = no_connection k.story.bus_state.connection g.first.connection_is four.0
        of (goes_on n c g) = of_kind n c g.row_is g.row_is.kind
        of (ends n g) = no_connection d.next g.next_is four.1.0
        of (under_reset on x) = x

    before : (is_fault row.kind || is_struck_phase s p) ≡ true → (is_fault row.kind || k.exchange.plan.struck) ≡ true
    before z = elim (cases_Bool (is_fault row.kind)) [ inl e ↦ rw e | inr e ↦ rw e (more (rw e at z) was) ]

    by : (x : Option Connection) → k.story.bus_state.connection ≡ x → (y : Option Connection) → d.next ≡ y
        → (exchange_after s k row d x y (leaving_of s k k.story.bus_state.connection)).plan.struck ≡ true
    by None f y g = no_connection k.story.bus_state.connection f four.0
    by (Some m) f None g = no_connection d.next g four.1.0
    by (Some m) f (Some n) g = struck_on (hearing_of k row d) (leaving_of s k k.story.bus_state.connection)
        k.exchange.plan stays (taken_lines (bus_of k) was) crosses_none (before four.1.1.1)

pub struck_taken : (s : ScenarioValue) (p : List Row) → Obeys s → IsPrompt s p → is_struck_phase s p ≡ true
    → is_taken (phase_of (bus_of (run_state s p))) ≡ true → (run_state s p).exchange.plan.struck ≡ true
struck_taken s [] o prompt e taken = wrong' e
struck_taken s (row ∷ p) o prompt e taken =
    struck_next s p row o prompt (λ x y. struck_taken s p o prompt.0 x y) e taken

-- So a phase that is wrong by its fault rows is wrong for the target.
pub wrong_for_target : (s : ScenarioValue) (p : List Row) → Obeys s → IsPrompt s p
    → is_wrong_phase (is_struck_phase s p) (run_state s p).exchange.plan (phase_of (bus_of (run_state s p))) ≡ true
    → is_wrong_phase (run_state s p).exchange.plan.struck (run_state s p).exchange.plan
    (phase_of (bus_of (run_state s p))) ≡ true
wrong_for_target s p o prompt e = go (phase_of (bus_of (run_state s p))) refl e
  where
    plan : Plan
    plan = (run_state s p).exchange.plan

    go : (x : Phase) → phase_of (bus_of (run_state s p)) ≡ x → is_wrong_phase (is_struck_phase s p) plan x ≡ true
        → is_wrong_phase plan.struck plan x ≡ true
    go Phase.Command f z = struck_taken s p o prompt z (ap is_taken f)
    go Phase.DataOut f z = struck_taken s p o prompt z (ap is_taken f)
    go _ f z = z
