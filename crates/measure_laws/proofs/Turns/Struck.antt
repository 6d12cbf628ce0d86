-- The target knows of a struck byte only in a phase in which a fault row stands.
use Rattle.measure_laws.proofs
use proofs.Names.{◌≡◌, Bool, true, false, ◌&&◌, List, [], ◌∷◌, Option, Some, None, refl, sym, not, ◌||◌, if◌then◌else◌}
use proofs.Names.{is_some, wrong', changes_phase, is_message_out, is_fault, Row, Connection, ScenarioValue, RowReading}
use proofs.Names.{row_reading, aim_of, plan_after_message, plan_anew, struck_plan, no_messages, plan_after}
use proofs.Names.{plan_in_message_out, first_plan, Hearing, Leaving, Plan, RunState, exchange_after, first_exchange}
use proofs.Names.{leaving_of, run_state, may_negotiate, messages_if, hearing_of, ready_of, is_struck_phase}

abbrev IsKnown : Bool → Bool → Option Connection → Type 0
IsKnown struck here o = struck ≡ true → (here ≡ true) × (is_some o ≡ true)

first_unstruck : (s : ScenarioValue) (k : RunState) (n : Connection)
    → (first_exchange s k n (aim_of k.story.aims n.initiator)).plan.struck ≡ false
first_unstruck s k n = go n.reselected
  where
    go : (q : Bool) → (first_plan q (not q && may_negotiate k n (aim_of k.story.aims n.initiator))
        (if q then messages_if (ready_of s k n.target) else no_messages)).struck ≡ false
    go true = refl
    go false = refl

never : {A : Type 0} (b : Bool) → b ≡ false → b ≡ true → A
never true e f = wrong' (sym e)
never false e f = wrong' f

step : (w : Hearing) (l : Leaving) (x : Plan) (was : Bool) → (x.struck ≡ true → was ≡ true)
    → (plan_after w l x).struck ≡ true → (true && true && not (changes_phase w.change) && (w.fault || was)) ≡ true
step w l x was h = go (changes_phase w.change) (is_message_out w.change.after) w.begun w.crosses
    (is_message_out w.change.before) w.is_last w.fault (not w.change.before.io)
  where
    either : (f : Bool) → x.struck ≡ true → (f || was) ≡ true
    either true e = refl
    either false e = h e

    go : (a b c d m i f o : Bool) → (if a then (if not b then record (plan_anew x) {
      messages = l.messages;
      next = l.next;
    } else if c then plan_in_message_out w x else plan_anew x)
        else if d then (if m then plan_after_message x i w.out else x) else if f && o then struck_plan x else x).struck
        ≡ true → (true && true && not a && (f || was)) ≡ true
    go true true true d m i f o e = wrong' e
    go true true false d m i f o e = wrong' e
    go true false c d m i f o e = wrong' e
    go false b c true true true f o e = wrong' e
    go false b c true true false f o e = either f e
    go false b c true false i f o e = either f e
    go false b c false m i true o e = refl
    go false b c false m i false o e = either false e

pub struck_known : (s : ScenarioValue) (p : List Row)
    → IsKnown (run_state s p).exchange.plan.struck (is_struck_phase s p) (run_state s p).story.bus_state.connection
struck_known s [] = λ e. wrong' e
struck_known s (row ∷ p) = go k.story.bus_state.connection d.next (struck_known s p)
  where
    k : RunState
    k = run_state s p

    d : RowReading
    d = row_reading k.story.bus_state row

    l : Leaving
    l = leaving_of s k k.story.bus_state.connection

    go : (a b : Option Connection) → IsKnown k.exchange.plan.struck (is_struck_phase s p) a
        → IsKnown (exchange_after s k row d a b l).plan.struck
        (is_some a && is_some b && not (changes_phase d.change) && (is_fault row.kind || is_struck_phase s p)) b
    go None None h e = wrong' (h e).1
    go (Some m) None h e = wrong' e
    go None (Some n) h e =
        never (first_exchange s k n (aim_of k.story.aims n.initiator)).plan.struck (first_unstruck s k n) e
    go (Some m) (Some n) h e =
        (step (hearing_of k row d) l k.exchange.plan (is_struck_phase s p) (λ z. (h z).0) e, refl)
