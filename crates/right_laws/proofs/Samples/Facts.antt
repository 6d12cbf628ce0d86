-- Of every prompt trace: what the faults have struck, and at its end that this is all.
use Rattle.right_laws.proofs
use proofs.Names.{ℕ, ◌≡◌, Bool, true, false, ◌∙◌, List, [], ◌∷◌, ◌++◌, append-nil, Option, Some, None, refl, sym, ap}
use proofs.Names.{reverse, connection, bus, Fault, Row, Connection, row_none, ScenarioValue, Obeys, Sample}
use proofs.Names.{expected_strikes, faults_in_order, row_strikes, strikes_by, least_none, due, IsPrompt, run_state}
use proofs.Names.{flip_of, comes_by, due_calm, off_at, least_is, always_is, obeys_latencies, reset_due, unreset_due}
use proofs.Names.{none_some, by_bool, by_option, Whole, whole, awaited, awaited_by, listed, strike_if, StrikesSoFar}
use proofs.Samples.{InTurn.{in_order_last, in_turn, ordered_faults, strikes_on}, Moments.{Moment, awaits_here}}
use proofs.Samples.{Next.{SoFar, next_taken}, Taken.{Taken}}
use Rattle.due_model.specs.Next.{IsEnded}

-- ---- what is known of a prompt trace

-- The traces of which this holds.
pub record IsKnown (s : ScenarioValue) (p : List Row) : Type 0 where
  pub obeys : Obeys s
  pub prompt : IsPrompt s p

known_before : (s : ScenarioValue) (p : List Row) (row : Row) → IsKnown s (row ∷ p) → IsKnown s p
known_before s p row k =
    record {
      obeys = k.obeys;
      prompt = k.prompt.0;
    }

whole_of : (s : ScenarioValue) (p : List Row) → IsKnown s p → Whole s p
whole_of s p k = whole s p k.obeys k.prompt

moment_of : (s : ScenarioValue) (p : List Row) (row : Row) → IsKnown s (row ∷ p) → Moment s p row
moment_of s p row k =
    let w = whole_of s p (known_before s p row k) in
    let v = whole_of s (row ∷ p) k in
    record {
      fits = obeys_latencies s k.obeys;
      standing = w.stood.standing;
      here = w.stood.here;
      ends = w.ends;
      least = least_is s p row k.prompt.1;
      obeys = (row_none p row).1 v.stood.standing.lawful.1;
      next = v.stood.here;
    }

-- ---- row by row

none_first : (s : ScenarioValue) (q : Bool) → awaited_by s [] q None ≡ None
none_first s true = refl
none_first s false = refl

first : (s : ScenarioValue) → SoFar s []
first s = (
  [],
  record {
    all = ap listed (sym (none_first s (bus []).rst));
    strikes = refl;
    left = refl;
    order = tt;
    past = tt;
    next = λ a e. none_some a (sym (none_first s (bus []).rst) ∙ e);
    crossed = λ n d en c er. absurd (no_connection n en);
    calls = λ on k h ek eh un. none_some k ek;
  },
)
  where
    no_connection : (n : Connection) → (let a : Option Connection = None in a) ≡ Some n → ⊥
    no_connection n z = absurd cc

so_far : (s : ScenarioValue) (p : List Row) → IsKnown s p → SoFar s p
so_far s [] k = first s
so_far s (row ∷ p) k = next_taken s p row (moment_of s p row k) (so_far s p (known_before s p row k))

pub strikes_so_far : (s : ScenarioValue) (p : List Row) → IsKnown s p → StrikesSoFar s p
strikes_so_far s p k =
    let w = so_far s p k in
    record {
      taken = w.0;
      samples_are = w.1.all;
      strikes_are = in_turn (faults_in_order s.faults) w.0 (ordered_faults s.faults) w.1.order ∙ w.1.strikes;
      faults_are = sym w.1.left;
    }

-- ---- the end

-- What is still awaited no fault is to strike.
unstruck : (s : ScenarioValue) (p : List Row) (done : List Sample) (a : Sample) → IsKnown s p → IsEnded s p
    → Taken s p done → awaited s p ≡ Some a → (flip : Option ℕ) → flip_of (run_state s p).faults a.time ≡ flip
    → flip ≡ None
unstruck s p done a k ended w e None f = refl
unstruck s p done a k ended w e (Some bit) f =
    by_bool (bus p).rst
    (λ on. none_some a (sym (λ i. awaited_by s p (on i) (connection p)) ∙ e))
    (λ calm. absurd (struck calm))
  where
    struck : (bus p).rst ≡ false → ⊥
    struck calm =
        let v = whole_of s p k in
        let st = v.stood.standing in
        let x = awaits_here s p a (obeys_latencies s k.obeys) v.stood.here v.ends w.crossed calm
        (always_is s p st calm) e in
        let z = comes_by (reset_due s p a.dev) (unreset_due s p a.dev)
        (record { time = a.time; kind = Fault bit }) (x.struck bit f) in
        none_some z.x (sym (least_none (due s p) 8 ended a.dev x.below)
        ∙ due_calm s p a.dev st.devices x.below (off_at p calm a.dev x.below) ∙ z.is)

pub strikes_at_end : (s : ScenarioValue) (p : List Row) → IsKnown s p → IsEnded s p
    → expected_strikes s p ≡ row_strikes (reverse p)
strikes_at_end s p k ended = by (so_far s p k)
  where
    by : SoFar s p → expected_strikes s p ≡ row_strikes (reverse p)
    by (done, w) = by_option (awaited s p) (λ e. ap (strikes_by (faults_in_order s.faults))
        (w.all ∙ ap (λ (x : Option Sample). done ++ listed x) e ∙ append-nil done)
        ∙ in_turn (faults_in_order s.faults) done (ordered_faults s.faults) w.order ∙ w.strikes)
        (λ a e. ap (strikes_by (faults_in_order s.faults)) (w.all ∙ ap (λ (x : Option Sample). done ++ listed x) e)
        ∙ in_turn (faults_in_order s.faults) (done ++ a ∷ [])
        (ordered_faults s.faults) (in_order_last a done w.order (w.next a e))
        ∙ strikes_on (faults_in_order s.faults) done a ∙ (λ i. w.strikes i ++ strike_if a (flip_of (w.left i) a.time))
        ∙ ap (λ (x : Option ℕ). row_strikes (reverse p) ++ strike_if a x)
        (unstruck s p done a k ended w e (flip_of (run_state s p).faults a.time) refl)
        ∙ append-nil (row_strikes (reverse p)))
