-- The samples that the rows have taken, and what the faults of the scenario have struck of them: row by row.
use Rattle.right_laws.proofs
use proofs.Names.{ℕ, ◌≡◌, ◌≤◌, Bool, true, false, ◌∙◌, List, [], ◌∷◌, ◌++◌, append-nil, drop, Option, Some, None, refl}
use proofs.Names.{sym, ap, ⊤, reverse, if◌then◌else◌, wrong, connection, receiver, is_fault, bus, last_time, Kind}
use proofs.Names.{Drives, Fault, Row, Connection, ScenarioValue, Sample, Strike, is_kept_by_reset, samples}
use proofs.Names.{faults_in_order, strike_of, row_strikes, run_state, flip_of, row_of_fault, awaited, listed, strike_if}
use proofs.{Names.{left_if, strikes_in_turn, faults_left}, Samples.{Bytes.{Crossed}, Calls.{with_awaited}}}
use proofs.Samples.{Directions.{IsDirected}, InTurn.{InOrder, Precedes, AllPrecede, AreKept, in_order_last}}
use proofs.Samples.{InTurn.{last_sample, left_on, row_strikes_on, strikes_on}, Resets.{IsKeptOn, LetsCallsGo}}

-- A sample that has been taken: it lies in the past, no reset that is still to come takes it away, and it is none of
-- another device in this phase.
pub record IsPast (s : ScenarioValue) (p : List Row) (b : Sample) : Type 0 where
  pub time : b.time ≤ last_time p
  pub kept : IsKeptOn s p b
  pub directed : IsDirected p b

abbrev pub ArePast : ScenarioValue → List Row → List Sample → Type 0
ArePast s p [] = ⊤
ArePast s p (b ∷ done) = IsPast s p b × ArePast s p done

pub record Taken (s : ScenarioValue) (p : List Row) (done : List Sample) : Type 0 where
  pub all : samples s p ≡ done ++ listed (awaited s p)
  pub strikes : strikes_in_turn (faults_in_order s.faults) done ≡ row_strikes (reverse p)
  pub left : faults_left (faults_in_order s.faults) done ≡ (run_state s p).faults
  pub order : InOrder done
  pub past : ArePast s p done
  pub next : (a : Sample) → awaited s p ≡ Some a → AllPrecede a done
  pub crossed : (n : Connection) (d : ℕ) → connection p ≡ Some n → (bus p).rst ≡ false → receiver p ≡ Some d
      → Crossed p n d
  pub calls : (bus p).rst ≡ true → LetsCallsGo p

-- What stands after the row but for the sample that is then awaited.
pub record Stepped (s : ScenarioValue) (q : List Row) (done : List Sample) : Type 0 where
  pub strikes : strikes_in_turn (faults_in_order s.faults) done ≡ row_strikes (reverse q)
  pub left : faults_left (faults_in_order s.faults) done ≡ (run_state s q).faults
  pub order : InOrder done
  pub past : ArePast s q done

-- ---- small facts

pub past_on : (s : ScenarioValue) (p q : List Row) (done : List Sample)
    → ((b : Sample) → IsPast s p b → IsPast s q b) → ArePast s p done → ArePast s q done
past_on s p q [] f w = tt
past_on s p q (b ∷ done) f w = (f b w.0, past_on s p q done f w.1)

past_more : (s : ScenarioValue) (q : List Row) (done : List Sample) (a : Sample) → ArePast s q done → IsPast s q a
    → ArePast s q (done ++ a ∷ [])
past_more s q [] a w x = (x, tt)
past_more s q (b ∷ done) a w x = (w.0, past_more s q done a w.1 x)

pub all_precede : (s : ScenarioValue) (q : List Row) (done : List Sample) (a : Sample)
    → ((b : Sample) → IsPast s q b → Precedes b a) → ArePast s q done → AllPrecede a done
all_precede s q [] a f w = tt
all_precede s q (b ∷ done) a f w = (f b w.0, all_precede s q done a f w.1)

pub all_kept : (s : ScenarioValue) (p : List Row) (row : Row) (done : List Sample)
    → ((b : Sample) → IsPast s p b → is_kept_by_reset row b ≡ true) → ArePast s p done → AreKept row done
all_kept s p row [] f w = tt
all_kept s p row (b ∷ done) f w = (f b w.0, all_kept s p row done f w.1)

no_strike : (row : Row) → is_fault row.kind ≡ false → strike_of row row.kind [] ≡ []
no_strike row e = go row.kind e
  where
    go : (x : Kind) → is_fault x ≡ false → strike_of row x [] ≡ []
    go (Drives l) z = refl
    go (Fault bit) z = wrong z

-- ---- a row that takes no sample, and one that takes the sample that was awaited

pub stays : (s : ScenarioValue) (p : List Row) (row : Row) (done : List Sample) → Taken s p done
    → ((b : Sample) → IsPast s p b → IsPast s (row ∷ p) b) → is_fault row.kind ≡ false → Stepped s (row ∷ p) done
stays s p row done w f lines = record {
  strikes = w.strikes
      ∙ sym (row_strikes_on row p ∙ ap (λ (x : List Strike). row_strikes (reverse p) ++ x) (no_strike row lines)
      ∙ append-nil (row_strikes (reverse p)));
  left = w.left ∙ sym (ap (λ (q : Bool). if q then drop 1 (run_state s p).faults else (run_state s p).faults) lines);
  order = w.order;
  past = past_on s p (row ∷ p) done f w.past;
}

pub takes : (s : ScenarioValue) (p : List Row) (row : Row) (done : List Sample) (a : Sample) → Taken s p done
    → awaited s p ≡ Some a → ((b : Sample) → IsPast s p b → IsPast s (row ∷ p) b) → IsPast s (row ∷ p) a
    → ((bit : ℕ) → flip_of (run_state s p).faults a.time ≡ Some bit → row ≡ row_of_fault a.time a.dev bit)
    → (flip_of (run_state s p).faults a.time ≡ None → is_fault row.kind ≡ false) → Stepped s (row ∷ p) (done ++ a ∷ [])
takes s p row done a w e f new struck plain = record {
  strikes =
      strikes_on (faults_in_order s.faults) done a
      ∙ (λ i. w.strikes i ++ strike_if a (flip_of (w.left i) a.time))
      ∙ ap (λ (x : List Strike). row_strikes (reverse p) ++ x) (strike (flip_of (run_state s p).faults a.time) refl)
      ∙ sym (row_strikes_on row p);
  left =
      left_on (faults_in_order s.faults) done a
      ∙ (λ i. left_if (w.left i) (flip_of (w.left i) a.time))
      ∙ rest (flip_of (run_state s p).faults a.time) refl;
  order = in_order_last a done w.order (w.next a e);
  past = past_more s (row ∷ p) done a (past_on s p (row ∷ p) done f w.past) new;
}
  where
    flip : Option ℕ
    flip = flip_of (run_state s p).faults a.time

    strike : (o : Option ℕ) → flip ≡ o → strike_if a flip ≡ strike_of row row.kind []
    strike None z = ap (strike_if a) z ∙ sym (no_strike row (plain z))
    strike (Some bit) z = ap (strike_if a) z ∙ sym (ap (λ (r : Row). strike_of r r.kind []) (struck bit z))

    rest : (o : Option ℕ) → flip ≡ o → left_if (run_state s p).faults flip
        ≡ (if is_fault row.kind then drop 1 (run_state s p).faults else (run_state s p).faults)
    rest None z = ap (left_if (run_state s p).faults) z
        ∙ sym (ap (λ (q : Bool). if q then drop 1 (run_state s p).faults else (run_state s p).faults) (plain z))
    rest (Some bit) z = ap (left_if (run_state s p).faults) z
        ∙ sym (ap (λ (r : Row). if is_fault r.kind then drop 1 (run_state s p).faults else (run_state s p).faults)
        (struck bit z))

-- ---- the samples after it

-- Where the row does not raise RST it puts down the sample that is then awaited.
pub puts_down : (s : ScenarioValue) (p : List Row) (row : Row) (done : List Sample)
    → Stepped s (row ∷ p) done → samples s (row ∷ p) ≡ with_awaited (awaited s (row ∷ p)) done
    → ((a : Sample) → awaited s (row ∷ p) ≡ Some a → AllPrecede a done) → ((n : Connection) (d : ℕ)
    → connection (row ∷ p) ≡ Some n → (bus (row ∷ p)).rst ≡ false → receiver (row ∷ p) ≡ Some d → Crossed (row ∷ p) n d)
    → ((bus (row ∷ p)).rst ≡ true → LetsCallsGo (row ∷ p)) → Taken s (row ∷ p) done
puts_down s p row done w e next crossed calls = record {
  all = e ∙ go (awaited s (row ∷ p)) refl;
  strikes = w.strikes;
  left = w.left;
  order = w.order;
  past = w.past;
  next = next;
  crossed = crossed;
  calls = calls;
}
  where
    go : (o : Option Sample) → awaited s (row ∷ p) ≡ o
        → with_awaited (awaited s (row ∷ p)) done ≡ done ++ listed (awaited s (row ∷ p))
    go None z = ap (λ (x : Option Sample). with_awaited x done) z ∙ sym (append-nil done)
        ∙ ap (λ (x : Option Sample). done ++ listed x) (sym z)
    go (Some a) z = ap (λ (x : Option Sample). with_awaited x done) z ∙ last_sample a done w.order (next a z)
        ∙ ap (λ (x : Option Sample). done ++ listed x) (sym z)

-- Where none is awaited before a row, or one is.
pub before_none : (s : ScenarioValue) (p : List Row) (done : List Sample) → Taken s p done → awaited s p ≡ None
    → samples s p ≡ done
before_none s p done w e = w.all ∙ ap (λ (x : Option Sample). done ++ listed x) e ∙ append-nil done

pub before_some : (s : ScenarioValue) (p : List Row) (done : List Sample) (a : Sample) → Taken s p done
    → awaited s p ≡ Some a → samples s p ≡ done ++ a ∷ []
before_some s p done a w e = w.all ∙ ap (λ (x : Option Sample). done ++ listed x) e
