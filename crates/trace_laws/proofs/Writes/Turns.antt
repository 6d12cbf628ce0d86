-- A row of a prompt trace: what it makes of the runs that are counted, and of the writers of the units.
use Rattle.trace_laws.proofs
use proofs.Names.{ℕ, ◌≡◌, Bool, true, false, not, ◌&&◌, ◌==◌, ◌∙◌, List, ◌∷◌, Option, Some, None, refl, sym, subst}
use proofs.Names.{if◌then◌else◌, is_some, is_none, wrong', eq_self, is_nothing, changes_phase, Row, Change, Connection}
use proofs.Names.{ScenarioValue, history_sound, Process, process_of, HasSeats, AllOwnUnits, AreApart, running_in}
use proofs.Names.{running_process, RunningProcess, Array, guest_at, RowReading, row_reading, trace_history, phase_of}
use proofs.Names.{Leaving, run_state_plain, ProcessProgress, progress_with, AreOfDevices, RunState, array_of, or_start}
use proofs.Names.{process_served, run_state, run_state_after, progress_after, progress_by_leaving, leaving_of, leaving}
use proofs.Names.{is_unanswered, Writer, writer_of, writers, writers_with, is_data_out, IsRowIn, reading_in, by_option}
use proofs.{Names.{Moves, Stands, stands_each, AllUnits}, Runs.Done.{counted_runs}}

-- ---- the writers

pub no_byte : (s : ScenarioValue) (p : List Row) (row : Row)
    → (row_reading (run_state s p).story.bus_state row).crosses ≡ false → writers s (row ∷ p) ≡ writers s p
no_byte s p row e =
    let k = run_state s p in
    let d = row_reading k.story.bus_state row in
    λ i. if e i && is_data_out (phase_of d.change.before) && not d.change.after.rst
    then writers_with (writers s p) (process_served s k) else writers s p

-- A byte crosses.
pub a_byte : (s : ScenarioValue) (p : List Row) (row : Row) (n : Connection) (c : Change) (q : Bool)
    → IsRowIn (run_state s p) row n c
    → (row_reading (run_state s p).story.bus_state row) ≡ reading_in (run_state s p).story.bus_state n c true
    → is_data_out (phase_of c.before) ≡ q
    → writers s (row ∷ p) ≡ (if q then writers_with (writers s p) (process_served s (run_state s p)) else writers s p)
a_byte s p row n c q r d e =
    let k = run_state s p in
    (λ i. if (d i).crosses && is_data_out (phase_of (d i).change.before) && not (d i).change.after.rst
    then writers_with (writers s p) (process_served s k) else writers s p)
    ∙ (λ i. if e i && not (r.calm i) then writers_with (writers s p) (process_served s k) else writers s p) ∙ go q
  where
    go : (x : Bool) → (if x && true then writers_with (writers s p) (process_served s (run_state s p)) else writers s p)
        ≡ (if x then writers_with (writers s p) (process_served s (run_state s p)) else writers s p)
    go true = refl
    go false = refl

pub writer_now : (all : List Writer) (c : Process) → writer_of (writers_with all (Some c)) c.target c.unit ≡ Some c.id
writer_now all c =
    (λ i. if eq_self c.target i && c.unit == c.unit then Some c.id else writer_of all c.target c.unit)
    ∙ (λ i. if eq_self c.unit i then Some c.id else writer_of all c.target c.unit)

pub writer_elsewhere : (all : List Writer) (c : Process) (target unit : ℕ)
    → (c.target == target && c.unit == unit) ≡ false
    → writer_of (writers_with all (Some c)) target unit ≡ writer_of all target unit
writer_elsewhere all c target unit e = λ i. if e i then Some c.id else writer_of all target unit

-- ---- the runs

pub same_progress : (s : ScenarioValue) (k : RunState) (row : Row)
    → changes_phase (row_reading k.story.bus_state row).change ≡ false → (run_state_after s k row).progress ≡ k.progress
same_progress s k row e = go k.story.bus_state.connection (row_reading k.story.bus_state row).next
    (leaving_of s k k.story.bus_state.connection)
  where
    go : (before after : Option Connection) (l : Leaving)
        → progress_after s k (row_reading k.story.bus_state row) before after l ≡ k.progress
    go None None l = refl
    go None (Some n) l = refl
    go (Some m) None l = refl
    go (Some m) (Some n) l =
        λ i. if e i && k.exchange.begun then progress_by_leaving k (process_served s k) l else k.progress

-- It ends or begins with the row, or does not stand.
pub progress_apart : (s : ScenarioValue) (k : RunState) (row : Row) → k.story.bus_state.connection ≡ None
    → (run_state_after s k row).progress ≡ k.progress
progress_apart s k row e =
    (λ i. progress_after s k d (e i) d.next (leaving_of s k k.story.bus_state.connection)) ∙ go d.next
  where
    d : RowReading
    d = row_reading k.story.bus_state row

    go : (after : Option Connection) → progress_after s k (row_reading k.story.bus_state row) None after
        (leaving_of s k k.story.bus_state.connection) ≡ k.progress
    go None = refl
    go (Some n) = refl

pub progress_ends : (s : ScenarioValue) (k : RunState) (row : Row) → (row_reading k.story.bus_state row).next ≡ None
    → (run_state_after s k row).progress ≡ k.progress
progress_ends s k row e =
    (λ i. progress_after s k d k.story.bus_state.connection (e i) (leaving_of s k k.story.bus_state.connection))
    ∙ go k.story.bus_state.connection
  where
    d : RowReading
    d = row_reading k.story.bus_state row

    go : (before : Option Connection) → progress_after s k (row_reading k.story.bus_state row) before None
        (leaving_of s k k.story.bus_state.connection) ≡ k.progress
    go None = refl
    go (Some n) = refl

-- A phase is left: by what its target is due to do.
pub progress_turns : (s : ScenarioValue) (k : RunState) (row : Row) (n : Connection) (c : Change) → IsRowIn k row n c
    → changes_phase c ≡ true → row_reading k.story.bus_state row ≡ reading_in k.story.bus_state n c false
    → (run_state_after s k row).progress
    ≡ (if k.exchange.begun then progress_by_leaving k (process_served s k) (leaving s k n.target) else k.progress)
progress_turns s k row n c r e d =
    (λ i. progress_after s k (d i) (r.connection_is i) (d i).next (leaving_of s k (r.connection_is i)))
    ∙ (λ i. if e i && k.exchange.begun then progress_by_leaving k (process_served s k) (leaving s k n.target)
    else k.progress)

-- ---- the process that runs in its unit

start_apart : (s : ScenarioValue) (p : List Row) → HasSeats s → AreOfDevices p
    → AreApart (array_of s (run_state s p)).units
start_apart s p seats dv = by_option (run_state s p).array
    (λ e. subst (λ (o : Option Array). AreApart (or_start s o).units) (sym e) seats.apart)
    (λ a e. subst (λ (o : Option Array). AreApart (or_start s o).units) (sym e)
    (history_sound s (trace_history s p) a seats (sym (run_state_plain s p dv).array ∙ e)).apart)

-- It has no reply, and is no guest.
pub record RunsThere (a : Array) (c : Process) : Type 0 where
  pub running : RunningProcess
  pub running_is : running_in a.units c.id ≡ Some running
  pub free : running.reply ≡ None

pub runs_there : (a : Array) (c : Process) → is_unanswered (running_process a c.id) ≡ true
    → guest_at a.guests c.id ≡ None → RunsThere a c
runs_there a c e none = go (running_in a.units c.id) refl
    (sym (λ i. is_unanswered (if is_some (none i) then none i else running_in a.units c.id)) ∙ e)
  where
    free : (r : RunningProcess) → is_none r.reply ≡ true → r.reply ≡ None
    free r z = is_nothing r.reply z

    go : (o : Option RunningProcess) → running_in a.units c.id ≡ o → is_unanswered o ≡ true → RunsThere a c
    go None f z = wrong' z
    go (Some r) f z = record { running = r; running_is = f; free = free r z }

pub stands_there : (s : ScenarioValue) (p : List Row) (q : Process) → HasSeats s → AreOfDevices p
    → AllOwnUnits s (array_of s (run_state s p)).units → process_of s q.id ≡ Some q
    → RunsThere (array_of s (run_state s p)) q → AllUnits (Stands q) (array_of s (run_state s p)).units
stands_there s p q seats dv own is r =
    stands_each s (array_of s (run_state s p)).units q r.running own (start_apart s p seats dv) is r.running_is

-- ---- what moves

-- A byte comes of the process that runs.
pub byte_moves : (made : List ProcessProgress) (all : List Writer) (c : Process)
    → Moves made made all (writers_with all (Some c)) c
byte_moves made all c = record {
  others = λ id ne. refl;
  elsewhere = λ t n e. writer_elsewhere all c t n e;
  own = λ some was e. writer_now all c;
  first = λ some was. writer_now all c;
}

-- It makes a run, of which a byte came.
pub run_moves : (made : List ProcessProgress) (all : List Writer) (c : Process) (counts : Bool)
    → writer_of all c.target c.unit ≡ Some c.id → Moves made (progress_with made c.id true counts) all all c
run_moves made all c counts e = record {
  others = λ id ne. counted_runs made c.id true counts id ne;
  elsewhere = λ t n f. refl;
  own = λ some was f. f;
  first = λ some was. e;
}
