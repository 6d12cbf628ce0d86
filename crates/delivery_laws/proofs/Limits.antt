-- The test of what valid commands are owed (IsDelivered): where it holds of a run, that does; and what a case shows of
-- one command.
use Rattle.delivery_laws.proofs
use proofs.Names.{ℕ, suc, zero, ◌≡◌, ◌+◌, Bool, true, false, not, ◌&&◌, ◌||◌, ◌∙◌, List, [], ◌∷◌, Option, Some, None}
use proofs.Names.{sym, ap, subst, arith, and_from, same_Some, ◌==◌, nat_le, and_first, and_second, plus_none, Row}
use proofs.Names.{Sense, QUEUE_FULL, ScenarioValue, AbortDef, CmdDef, ResetDef, same_number, command_at, same_bool}
use proofs.Names.{command_id, Outcome, ended_aborted, ended_check, ended_full, ended_good, ended_lost, ended_reset}
use proofs.Names.{ended_unanswered, is_roomy, is_valid, outcome_of, story, trace_history, is_good, was_refused}
use proofs.Names.{none_some, plus_one, IsDelivered, command_faults, fault_limit, first_ending, first_outcome}
use proofs.Names.{is_by_status, is_full, is_tried_out, is_unanswered}

abbrev pub has_no_reset : List ResetDef → Bool
has_no_reset [] = true
has_no_reset (r ∷ resets) = false

abbrev pub has_no_abort : List AbortDef → Bool
has_no_abort [] = true
has_no_abort (a ∷ aborts) = false

-- ---- one command

-- Its queue has room for all, and there is no reset and no abort; it is valid, so many faults struck it, it bears so
-- many, and it ended GOOD or not.
abbrev pub limit_told_of : ScenarioValue → List Row → ℕ → ℕ → ℕ → Bool → Option CmdDef → Bool
limit_told_of s rows m faults limit good None = false
limit_told_of s rows m faults limit good (Some c) = (is_roomy s && (has_no_reset s.resets && has_no_abort s.aborts))
    && (is_valid s c && (command_faults s rows m == faults
    && (fault_limit s c == limit && same_bool (is_good (outcome_of s (story s rows) m)) good)))

abbrev pub limit_told : ScenarioValue → List Row → ℕ → ℕ → ℕ → Bool → Bool
limit_told s rows m faults limit good = limit_told_of s rows m faults limit good (command_at s.commands m)

-- ---- its outcome

abbrev same_sense : Sense → Sense → Bool
same_sense a b = a.key == b.key
    && (a.asc == b.asc && (a.ascq == b.ascq && (a.marks == b.marks && same_number a.residue b.residue)))

abbrev same_bytes : List ℕ → List ℕ → Bool
same_bytes [] [] = true
same_bytes (x ∷ xs) (y ∷ ys) = x == y && same_bytes xs ys
same_bytes [] (y ∷ ys) = false
same_bytes (x ∷ xs) [] = false

abbrev is_outcome : Outcome → Option Outcome → Bool
is_outcome (ended_good xs) (Some (ended_good ys)) = same_bytes xs ys
is_outcome (ended_check None) (Some (ended_check None)) = true
is_outcome (ended_check (Some a)) (Some (ended_check (Some b))) = same_sense a b
is_outcome ended_full (Some ended_full) = true
is_outcome ended_unanswered (Some ended_unanswered) = true
is_outcome ended_lost (Some ended_lost) = true
is_outcome ended_reset (Some ended_reset) = true
is_outcome ended_aborted (Some ended_aborted) = true
is_outcome _ _ = false

-- It ended so, as the story of the rows tells, and as the first row does that ends it; it ended unanswered where nobody
-- answered its initiator too often, and with QUEUE FULL where it was refused at a full queue.
abbrev outcome_told_of : ScenarioValue → List Row → ℕ → Outcome → Option CmdDef → Bool
outcome_told_of s rows m outcome None = false
outcome_told_of s rows m outcome (Some c) =
    (is_outcome outcome (outcome_of s (story s rows) m) && is_outcome outcome (first_outcome s rows m c))
    && (same_bool (is_unanswered (Some outcome)) (is_tried_out s rows m c) && same_bool (is_full (Some outcome))
    (was_refused s (trace_history s rows) (command_id m) && is_by_status QUEUE_FULL (first_ending s rows m c)))

abbrev pub outcome_told : ScenarioValue → List Row → ℕ → Outcome → Bool
outcome_told s rows m outcome = outcome_told_of s rows m outcome (command_at s.commands m)

-- ---- all of a run

-- Within its limit it ended GOOD, if it is valid.
abbrev is_within : ScenarioValue → List Row → ℕ → CmdDef → Bool
is_within s rows m c = is_valid s c && nat_le (command_faults s rows m) (fault_limit s c)

abbrev delivers_one : ScenarioValue → List Row → ℕ → CmdDef → Bool
delivers_one s rows m c = not (is_within s rows m c) || is_good (outcome_of s (story s rows) m)

abbrev delivers_from : ScenarioValue → List Row → ℕ → List CmdDef → Bool
delivers_from s rows m [] = true
delivers_from s rows m (c ∷ commands) = delivers_one s rows m c && delivers_from s rows (m + 1) commands

abbrev is_calm : ScenarioValue → Bool
is_calm s = is_roomy s && (has_no_reset s.resets && has_no_abort s.aborts)

abbrev pub delivers : ScenarioValue → List Row → Bool
delivers s rows = not (is_calm s) || delivers_from s rows 1 s.commands

-- ---- it means what it says

given_if : (q r : Bool) → q ≡ true → (not q || r) ≡ true → r ≡ true
given_if true r e z = z
given_if false r e z = absurd (never e)
  where
    never : false ≡ true → ⊥
    never f = cc

one_more : (m : ℕ) → 1 + m ≡ suc m
one_more m = omega arith

each_from : (s : ScenarioValue) (rows : List Row) (i m : ℕ) (commands : List CmdDef) (c : CmdDef)
    → delivers_from s rows i commands ≡ true → command_at commands (suc m) ≡ Some c
    → delivers_one s rows (i + m) c ≡ true
each_from s rows i m [] c e at = none_some c at
each_from s rows i zero (x ∷ commands) c e at = subst (λ (l : ℕ). delivers_one s rows l c ≡ true)
    (sym (plus_none i)) (ap (λ (y : CmdDef). delivers_one s rows i y) (sym (same_Some x c at))
    ∙ and_first (delivers_one s rows i x) (delivers_from s rows (i + 1) commands) e)
each_from s rows i (suc m) (x ∷ commands) c e at =
    subst (λ (l : ℕ). delivers_one s rows l c ≡ true) (sym (plus_one i m)) (each_from s rows (i + 1) m commands c
    (and_second (delivers_one s rows i x) (delivers_from s rows (i + 1) commands) e) at)

no_command : (commands : List CmdDef) (c : CmdDef) → command_at commands 0 ≡ Some c → ⊥
no_command [] c e = none_some c e
no_command (x ∷ commands) c e = none_some c e

pub delivered_by_test : (s : ScenarioValue) (rows : List Row) → delivers s rows ≡ true → IsDelivered s rows
delivered_by_test s rows e = λ roomy resets aborts l c at valid bears. by l at valid bears
    (given_if (is_calm s) (delivers_from s rows 1 s.commands) (calm roomy resets aborts) e)
  where
    calm : is_roomy s ≡ true → s.resets ≡ [] → s.aborts ≡ [] → is_calm s ≡ true
    calm roomy resets aborts = λ i. roomy i && (has_no_reset (resets i) && has_no_abort (aborts i))

    by : (l : ℕ) {c : CmdDef} → command_at s.commands l ≡ Some c → is_valid s c ≡ true
        → nat_le (command_faults s rows l) (fault_limit s c) ≡ true → delivers_from s rows 1 s.commands ≡ true
        → is_good (outcome_of s (story s rows) l) ≡ true
    by zero {c} at valid bears all = absurd (no_command s.commands c at)
    by (suc m) {c} at valid bears all = given_if (is_within s rows (suc m) c)
        (is_good (outcome_of s (story s rows) (suc m)))
        (and_from (is_valid s c) (nat_le (command_faults s rows (suc m)) (fault_limit s c)) valid bears)
        (subst (λ (w : ℕ). delivers_one s rows w c ≡ true) (one_more m) (each_from s rows 1 m s.commands c all at))
