-- The last data run of a process ends with all that it moves.
use Rattle.trace_laws.proofs
use proofs.Names.{ℕ, ◌≡◌, ◌≤◌, ◌<◌, ◌+◌, ◌*◌, ◌/◌, Bool, true, false, ◌&&◌, ◌==◌, ◌∙◌, Option, Some, None, refl, sym}
use proofs.Names.{ap, subst, arith, List, length, lt-div-mul-add, ltb-true, leb-true, ltb-false, eqb-true, nat_tests}
use proofs.Names.{◌-◌, if◌then◌else◌, min, nat_lt, nat_le, zero_of, wrong', changes_phase, Row, Change, Connection}
use proofs.Names.{unit_of, ScenarioValue, Policy, range_named, Process, unit_state_at, policy_of, run_at, run_in}
use proofs.Names.{run_length, runs_in, runs_in_all, is_status_next, phase_of, phase_leaving, phase_entry, disconnection}
use proofs.Names.{disconnect_messages, after_run, recovery, pointer_restoration, with_task, Leaving, Next, Phase, Task}
use proofs.Names.{target_def_of, progress_in, RunState, array_of, bus_of, process_served, run_state, leaving}
use proofs.Names.{serving_of, blocks_in, is_writing, reply_now, size_of, task_if, task_of, Writer, block_size}
use proofs.Names.{is_data_out, is_writer, writer_of, writers, start_of_run, self_id, GoesOn, mul_assoc, by_bool}
use proofs.Names.{writes_there, IsAnsweredWhole, RunsBlocks, HasSentAll, bytes_come, MovesInRuns, in_one, in_blocks}
use proofs.{Runs.Facts.{task_here}, Writes.{Rows.{WriteRow, Around, around}, Written.{left_by, moved_all}}}

-- ---- numbers

with_rest : (a b : ℕ) → b ≤ a + (b - a)
with_rest a b = omega arith

all_taken : (blocks most q m : ℕ) → 1 ≤ most → blocks + (most - 1) < q * most + most → q ≤ m + 1
    → blocks ≤ (m + 1) * most
all_taken blocks most q m h l e =
    let grows : q * most ≤ (m + 1) * most = times q (m + 1) most e in
    omega (arith, l, grows, h)
  where
    times : (a b c : ℕ) → a ≤ b → a * c ≤ b * c
    times a b c z = grind arith

times_up : (a b c : ℕ) → a ≤ b → a * c ≤ b * c
times_up a b c h = grind arith

one_more : (a c : ℕ) → (a + 1) * c ≡ a * c + c
one_more a c = omega arith

min_all : (b c : ℕ) → c ≤ b → min b c ≡ c
min_all b c h = grind arith

-- ---- the run that ends with all

part_all : (most blocks size moved m : ℕ) → moved ≡ blocks * size → (if nat_le blocks most then 1 else 2) ≤ m + 1
    → (if m == 0 && nat_lt (most * size) moved then most * size else moved) ≡ moved
part_all most blocks size moved m e l = go (m == 0) refl (nat_lt (most * size) moved) refl
  where
    go : (r : Bool) → (m == 0) ≡ r → (q : Bool) → nat_lt (most * size) moved ≡ q
        → (if r && q then most * size else moved) ≡ moved
    go false ep q eq = refl
    go true ep false eq = refl
    go true ep true eq =
        by_bool (nat_le blocks most)
        (λ er.
        let fits = times_up blocks most size (leb-true blocks most er) in
        let less = ltb-true (most * size) moved eq in
        absurd omega (arith, fits, less, e))
        (λ er.
        let two : 2 ≤ m + 1 = subst (λ (x : Bool). (if x then 1 else 2) ≤ m + 1) er l in
        let none = zero_of m ep in
        absurd omega (arith, two, none))

ends_all : (policy : Policy) (blocks size moved m : ℕ) → RunsBlocks policy → moved ≡ blocks * size
    → runs_in policy (Some blocks) ≤ m + 1 → (run_in policy (Some blocks) size moved m).end ≡ moved
ends_all Policy.Never blocks size moved m h e l = refl
ends_all Policy.Command blocks size moved m h e l = refl
ends_all (Policy.Burst most) blocks size moved m h e l =
    let taken : blocks ≤ (m + 1) * most = all_taken blocks most
    ((blocks + (most - 1)) / most) m h (lt-div-mul-add h) l in
    let up : blocks * size ≤ (m + 1) * most * size = times_up blocks ((m + 1) * most) size taken in
    let back = mul_assoc (m + 1) most size in
    let next = one_more m (most * size) in
    min_all (m * (most * size) + most * size) moved (omega (arith, up, back, next, e))
ends_all (Policy.NoSave most) blocks size moved m h e l = part_all most blocks size moved m e l

-- No run follows it.
pub last_run : (policy : Policy) (t : Task) → MovesInRuns policy t
    → (t.moved == 0) ≡ false → nat_lt (t.runs + 1) (runs_in_all policy t) ≡ false
    → t.moved ≤ (run_at policy t t.runs).start + run_length policy t
last_run policy t m some e = reaches (end m)
  where
    reaches : (run_at policy t t.runs).end ≡ t.moved → t.moved ≤ (run_at policy t t.runs).start + run_length policy t
    reaches z = subst (λ (x : ℕ). x ≤ (run_at policy t t.runs).start + run_length policy t) z
        (with_rest (run_at policy t t.runs).start (run_at policy t t.runs).end)

    end : MovesInRuns policy t → (run_at policy t t.runs).end ≡ t.moved
    end (in_one z) = ap (λ (b : Option ℕ). (run_in policy b t.size t.moved t.runs).end) z
    end (in_blocks f) =
        let all : runs_in policy (Some f.blocks) ≤ t.runs + 1 = subst
        (λ (b : Option ℕ). runs_in policy b ≤ t.runs + 1) f.blocks_are (ltb-false (t.runs + 1) (runs_in policy t.blocks)
        ((λ i. nat_lt (t.runs + 1) (if sym some i then 0 else runs_in policy t.blocks)) ∙ e)) in
        ap (λ (b : Option ℕ). (run_in policy b t.size t.moved t.runs).end) f.blocks_are
        ∙ ends_all policy f.blocks t.size t.moved t.runs f.runs f.moved all

-- Where a run begins does not hang on how much is moved.
pub start_same : (policy : Policy) (blocks : Option ℕ) (size moved other m : ℕ)
    → (run_in policy blocks size moved m).start ≡ (run_in policy blocks size other m).start
start_same policy None size moved other m = refl
start_same Policy.Never (Some blocks) size moved other m = refl
start_same _ (Some blocks) size moved other m = refl

-- ---- As DATA OUT is left for STATUS with no byte struck, the process that is served has sent all that it sends.

-- STATUS follows the last run alone.
pub last_to : (policy : Policy) (t : Task) → (after_run policy t).to ≡ Some Phase.Status
    → nat_lt (t.runs + 1) (runs_in_all policy t) ≡ false
last_to policy t e = go (nat_lt (t.runs + 1) (runs_in_all policy t)) refl (ap is_status_next e)
  where
    go : (q : Bool) → nat_lt (t.runs + 1) (runs_in_all policy t) ≡ q
        → is_status_next (if q then disconnection (disconnect_messages policy) else phase_entry Phase.Status).to ≡ true
        → nat_lt (t.runs + 1) (runs_in_all policy t) ≡ false
    go true f z = wrong' z
    go false f z = f

pub whole_run : (s : ScenarioValue) (p : List Row) (row : Row) (n : Connection) (c : Change) (q : Process)
    → WriteRow s p row → GoesOn s (run_state s p) row n c → changes_phase c ≡ true
    → (run_state s p).exchange.begun ≡ true → phase_of (bus_of (run_state s p)) ≡ Phase.DataOut
    → (run_state s p).exchange.plan.struck ≡ false → (leaving s (run_state s p) n.target).to ≡ Some Phase.Status
    → process_served s (run_state s p) ≡ Some q → q.target ≡ n.target
    → MovesInRuns (policy_of (target_def_of s q.target)) (task_here s (run_state s p) q)
    → HasSentAll s (run_state s p) (writers s p) q
whole_run s p row n c q w g ep b phase unstruck to served target blocks = record {
  writes = writes;
  writer = w.present n q ar.before ar.calm b phase served answered.some;
  came = came;
}
  where
    k : RunState
    k = run_state s p

    ar : Around s p row n c
    ar = around s p row n c w g

    t : Task
    t = task_here s k q

    policy : Policy
    policy = policy_of (target_def_of s q.target)

    task : task_of s k ≡ Some t
    task = ap (task_if s k) served

    writes : is_writing q ≡ true
    writes = writes_there s k q (w.was.planned n ar.before ar.calm) b served phase

    answered : IsAnsweredWhole s k q t
    answered = w.asked.answered n q t ar.before ar.calm ar.off ar.after (sym w.was.plain.begun ∙ b)
        (ar.turned ∙ ep) phase unstruck served task

    left : leaving s k n.target ≡ after_run policy t
    left = left_by s k n b ∙ ap (phase_leaving (serving_of s k n.target) (bus_of k).atn) phase
        ∙ (λ i. with_task (task i) (λ x. if unstruck i
        then recovery (target_def_of s n.target) x (pointer_restoration Next.GoOn) (phase_entry Phase.Status)
        else after_run (policy_of (target_def_of s n.target)) x))
        ∙ ap (λ (x : ℕ). after_run (policy_of (target_def_of s x)) t) (sym target)

    last : nat_lt (t.runs + 1) (runs_in_all policy t) ≡ false
    last = last_to policy t (sym (ap (λ (l : Leaving). l.to) left) ∙ to)

    all : t.moved ≡ length q.sent
    all = moved_all q (reply_now (array_of s k) q) writes answered.moves

    start : (run_at policy t t.runs).start ≡ start_of_run s q (progress_in k.progress q.id).runs
    start = ap (λ (size : ℕ). (run_in policy (blocks_in (range_named q)) size t.moved t.runs).start)
        (eqb-true (size_of (unit_state_at (array_of s k).units q.target q.unit))
        (block_size (unit_of s q.target q.unit)) (w.asked.sizes q served))
        ∙ start_same policy (blocks_in (range_named q)) (block_size (unit_of s q.target q.unit)) t.moved 0 t.runs

    come : bytes_come s k q ≡ start_of_run s q (progress_in k.progress q.id).runs + k.handshakes.answers
    come = λ i. start_of_run s q (progress_in k.progress q.id).runs
        + (if is_data_out (phase i) then k.handshakes.answers else 0)

    joined : (a x m r sent whole : ℕ) → m ≤ a + r → r ≤ x → m ≡ sent → whole ≡ a + x → sent ≤ whole
    joined a x m r sent whole h l e f = omega (arith, h, l, e, f)

    came : length q.sent ≤ bytes_come s k q
    came = joined (start_of_run s q (progress_in k.progress q.id).runs) k.handshakes.answers t.moved
        (run_length policy t) (length q.sent) (bytes_come s k q)
        (subst (λ (x : ℕ). t.moved ≤ x + run_length policy t) start (last_run policy t blocks answered.moves last))
        (leb-true (run_length policy t) k.handshakes.answers answered.whole) all come

-- As a test.
pub sent_all : (s : ScenarioValue) (k : RunState) (all : List Writer) (q : Process) → HasSentAll s k all q
    → (is_writing q && (is_writer (writer_of all q.target q.unit) q.id && nat_le (length q.sent) (bytes_come s k q)))
    ≡ true
sent_all s k all q h = (λ i. h.writes i && (is_writer (h.writer i) q.id && nat_le (length q.sent) (bytes_come s k q)))
    ∙ (λ i. self_id q.id i && nat_le (length q.sent) (bytes_come s k q))
    ∙ le_holds (length q.sent) (bytes_come s k q) h.came
  where
    le_holds : (a b : ℕ) → a ≤ b → nat_le a b ≡ true
    le_holds a b e = grind (arith, nat_tests)
