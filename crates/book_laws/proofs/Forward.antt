-- The phases with wrong parity counted by a forward pass over the rows, which decides the same.
use Rattle.book_laws.proofs
use proofs.Names.{ℕ, ◌≡◌, Bool, true, false, List, [], ◌∷◌, refl, ◌+◌, ◌&&◌, and_from, and_parts, ProcId, Row}
use proofs.Names.{ScenarioValue, row_reading, one_if, onto, RunState, first_run_state, run_state, run_state_after}
use proofs.Names.{is_struck_after, is_struck_phase, leaves_wrong_phase, wrong_phases, is_left_as_due, left_as_due}
use proofs.Names.{is_fault_of, fault_rows, is_refusal_after, is_refusing, is_true_complaint, complains_truly}

-- The rows are given the oldest first.
abbrev pub phases_on : ScenarioValue → ProcId → RunState → Bool → ℕ → List Row → ℕ
phases_on s id k struck count [] = count
phases_on s id k struck count (row ∷ rows) =
    phases_on s id (run_state_after s k row) (is_struck_after k row (row_reading k.story.bus_state row) struck)
    (count + one_if (leaves_wrong_phase struck k (row_reading k.story.bus_state row) id)) rows

phases_before : (s : ScenarioValue) (id : ProcId) (rows before : List Row)
    → phases_on s id (run_state s before) (is_struck_phase s before) (wrong_phases s before id) rows
    ≡ wrong_phases s (onto rows before) id
phases_before s id [] before = refl
phases_before s id (row ∷ rows) before = phases_before s id rows (row ∷ before)

-- Of a whole run.
pub phases_are : (s : ScenarioValue) (id : ProcId) (rows : List Row)
    → phases_on s id (first_run_state s) false 0 rows ≡ wrong_phases s (onto rows []) id
phases_are s id rows = phases_before s id rows []

-- And the fault rows.
abbrev pub faults_on : ScenarioValue → ProcId → RunState → ℕ → List Row → ℕ
faults_on s id k count [] = count
faults_on s id k count (row ∷ rows) =
    faults_on s id (run_state_after s k row) (count + one_if (is_fault_of k row id)) rows

faults_before : (s : ScenarioValue) (id : ProcId) (rows before : List Row)
    → faults_on s id (run_state s before) (fault_rows s before id) rows ≡ fault_rows s (onto rows before) id
faults_before s id [] before = refl
faults_before s id (row ∷ rows) before = faults_before s id rows (row ∷ before)

pub faults_are : (s : ScenarioValue) (id : ProcId) (rows : List Row)
    → faults_on s id (first_run_state s) 0 rows ≡ fault_rows s (onto rows []) id
faults_are s id rows = faults_before s id rows []

-- The target goes to BUS FREE only where it is due to, and each complaint is of a phase with a fault row.
abbrev pub rows_hold : ScenarioValue → RunState → Bool → Bool → List Row → Bool
rows_hold s k struck refusing [] = true
rows_hold s k struck refusing (row ∷ rows) =
    is_left_as_due s k (row_reading k.story.bus_state row)
    && (is_true_complaint k (row_reading k.story.bus_state row) refusing
    && rows_hold s (run_state_after s k row) (is_struck_after k row (row_reading k.story.bus_state row) struck)
    (is_refusal_after k (row_reading k.story.bus_state row) struck refusing) rows)

pub record Hold (s : ScenarioValue) (rows : List Row) : Type 0 where
  pub left : left_as_due s rows ≡ true
  pub truly : complains_truly s rows ≡ true

hold_on : (s : ScenarioValue) (rows before : List Row) → Hold s before
    → rows_hold s (run_state s before) (is_struck_phase s before) (is_refusing s before) rows ≡ true
    → Hold s (onto rows before)
hold_on s [] before h e = h
hold_on s (row ∷ rows) before h e =
    let k : RunState = run_state s before in
    let one = and_parts (is_left_as_due s k (row_reading k.story.bus_state row))
    (is_true_complaint k (row_reading k.story.bus_state row) (is_refusing s before)
    && rows_hold s (run_state_after s k row) (is_struck_phase s (row ∷ before)) (is_refusing s (row ∷ before)) rows)
    e in
    let two = and_parts (is_true_complaint k (row_reading k.story.bus_state row) (is_refusing s before)) (rows_hold s
    (run_state_after s k row) (is_struck_phase s (row ∷ before)) (is_refusing s (row ∷ before)) rows) one.1 in
    hold_on s rows (row ∷ before) (record {
      left = and_from (left_as_due s before) (is_left_as_due s k (row_reading k.story.bus_state row)) h.left one.0;
      truly = and_from (complains_truly s before)
          (is_true_complaint k (row_reading k.story.bus_state row) (is_refusing s before)) h.truly two.0;
    }) two.1

pub all_hold : (s : ScenarioValue) (rows : List Row) → rows_hold s (first_run_state s) false false rows ≡ true
    → Hold s (onto rows [])
all_hold s rows e = hold_on s rows [] (record { left = refl; truly = refl }) e
