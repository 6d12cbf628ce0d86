-- In COMMAND and DATA OUT the target knows that a fault row stands in the phase.
use Rattle.dialogue_laws.proofs
use proofs.Names.{◌≡◌, Bool, true, false, not, ◌&&◌, ◌||◌, ◌∙◌, List, [], ◌∷◌, Option, Some, None, refl, sym, ap, ℕ}
use proofs.Names.{not-true, if◌then◌else◌, is_some, wrong, wrong', LineSet, changes_phase, is_message_out, is_fault}
use proofs.Names.{receiver_in, receiver_of, Row, Change, Connection, ScenarioValue, RowReading, row_reading}
use proofs.Names.{struck_plan, plan_after, plan_in_phase, plan_with_byte, Hearing, Leaving, Plan, RunState, bus_of}
use proofs.Names.{exchange_after, leaving_of, run_state, hearing_of, SamePhase, same_phase_is, RowKind, crosses, still}
use proofs.Names.{strikes, turns, AreRowsOf, RowOf, apart as row_apart, begins, goes_on, ends, under_reset}
use proofs.Names.{is_struck_phase, not_message_out}

-- Bytes to the target that are none of a message.
abbrev pub TakesBytes : LineSet → Type 0
TakesBytes b = (b.io ≡ false) × (b.msg ≡ false)

plan_knows : (w : Hearing) (l : Leaving) (a : Plan) (was : Bool) → TakesBytes w.change.before
    → changes_phase w.change ≡ false → (w.fault ≡ true → w.crosses ≡ false) → (was ≡ true → a.struck ≡ true)
    → (w.fault || was) ≡ true → (plan_after w l a).struck ≡ true
plan_knows w l a was t ep apart h e =
    ap (λ (q : Bool). (if q then plan_in_phase w l a else if w.crosses then plan_with_byte w a
    else if w.fault && not w.change.before.io then struck_plan a else a).struck) ep
    ∙ go w.crosses refl w.fault refl
  where
    byte : a.struck ≡ true → (plan_with_byte w a).struck ≡ true
    byte g = ap (λ (q : Bool).
        (if q then Rattle.due_model.specs.dialogue_model.specs.Exchange.plan_after_message a w.is_last w.out
        else a).struck) (not_message_out w.change.before t.1)
        ∙ g

    go : (c : Bool) → w.crosses ≡ c → (f : Bool) → w.fault ≡ f
        → (if c then plan_with_byte w a else if f && not w.change.before.io then struck_plan a else a).struck ≡ true
    go true ec true ef = wrong (sym ec ∙ apart ef)
    go true ec false ef = byte (h (sym (ap (λ (q : Bool). q || was) ef) ∙ e))
    go false ec true ef = ap (λ (q : Bool). (if not q then struck_plan a else a).struck) t.0
    go false ec false ef = h (sym (ap (λ (q : Bool). q || was) ef) ∙ e)

four : (a b c d : Bool) → (a && b && c && d) ≡ true → (a ≡ true) × (b ≡ true) × (c ≡ true) × (d ≡ true)
four true true true d e = (refl, refl, refl, e)
four _ _ _ d e = wrong' e

pub struck_known : (s : ScenarioValue) (p : List Row) → AreRowsOf s p → is_struck_phase s p ≡ true
    → TakesBytes (bus_of (run_state s p)) → (run_state s p).exchange.plan.struck ≡ true
struck_known s [] rows e t = wrong' e
struck_known s (row ∷ p) rows e t =
    by (λ z x. struck_known s p rows.0 z x) k.story.bus_state.connection refl d.next refl
  where
    k : RunState
    k = run_state s p

    d : RowReading
    d = row_reading k.story.bus_state row

    w : Hearing
    w = hearing_of k row d

    l : Leaving
    l = leaving_of s k k.story.bus_state.connection

    parts : (is_some k.story.bus_state.connection ≡ true) × (is_some d.next ≡ true)
        × (not (changes_phase d.change) ≡ true) × ((is_fault row.kind || is_struck_phase s p) ≡ true)
    parts = four (is_some k.story.bus_state.connection) (is_some d.next) (not (changes_phase d.change))
        (is_fault row.kind || is_struck_phase s p) e

    stays : changes_phase d.change ≡ false
    stays = not-true (changes_phase d.change) parts.2

    same : SamePhase d.change.before d.change.after
    same = same_phase_is d.change stays

    before : TakesBytes d.change.before
    before = (sym same.io ∙ t.0, sym same.msg ∙ t.1)

    no_byte : (o : Option ℕ) → o ≡ None → is_some o ≡ false
    no_byte o f = ap (λ (x : Option ℕ). is_some x) f

    apart : is_fault row.kind ≡ true → d.crosses ≡ false
    apart f = of (rows.1)
      where
        kinds : (n : Connection) (c : Change) → k.story.bus_state.connection ≡ Some n → d.change ≡ c → RowKind row n c
            → d.crosses ≡ false
        kinds n c con ch (still g ep er) = wrong (sym f ∙ g)
        kinds n c con ch (strikes g ep er) = (λ i. is_some (receiver_of (con i) (ch i))) ∙ no_byte (receiver_in n c) er
        kinds n c con ch (crosses dev g ep er) = wrong (sym f ∙ g)
        kinds n c con ch (turns g ep er) = wrong (sym f ∙ g)

        of : RowOf s k row → d.crosses ≡ false
        of (row_apart con gone) = wrong' (sym (ap (λ (x : Option Connection). is_some x) con) ∙ parts.0)
        of (begins n b) = wrong' (sym (ap (λ (x : Option Connection). is_some x) b.first.connection_is) ∙ parts.0)
        of (goes_on n c g) = kinds n c g.row_is.connection_is g.row_is.change_is g.row_is.kind
        of (ends n g) = wrong' (sym (ap (λ (x : Option Connection). is_some x) g.next_is) ∙ parts.1)
        of (under_reset on quiet) = quiet

    by : (is_struck_phase s p ≡ true → TakesBytes (bus_of k) → k.exchange.plan.struck ≡ true)
        → (a : Option Connection) → k.story.bus_state.connection ≡ a → (b : Option Connection) → d.next ≡ b
        → (run_state s (row ∷ p)).exchange.plan.struck ≡ true
    by was None ea b eb = wrong' (sym (ap (λ (x : Option Connection). is_some x) ea) ∙ parts.0)
    by was (Some m) ea None eb = wrong' (sym (ap (λ (x : Option Connection). is_some x) eb) ∙ parts.1)
    by was (Some m) ea (Some n) eb =
        (λ i. (exchange_after s k row d (ea i) (eb i) l).plan.struck)
        ∙ plan_knows w l k.exchange.plan (is_struck_phase s p) before stays apart (λ z. was z before) parts.3
