-- The runs of data are far shorter than the counts of REQ and ACK reach, after any rows.
use Rattle.link_laws.proofs
use proofs.Names.{ℕ, ◌≡◌, ◌≤◌, ◌+◌, ◌-◌, ◌*◌, ◌^◌, Bool, true, false, ◌&&◌, List, [], ◌∷◌, length, Option, Some, None}
use proofs.Names.{refl, arith, ◌==◌, ltb-true, if◌then◌else◌, min, nat_lt, Event, Row, Connection, GOOD, ScenarioValue}
use proofs.Names.{Policy, Reply, Process, Array, unit_state_at, nexus_of, row_reading, row_events_by, Item, process}
use proofs.Names.{abort, policy_of, run_by, run_in, run_length, run_length_if, Task, target_def_of, progress_in}
use proofs.Names.{RunState, or_start, array_of, process_item, process_served, carried_here, run_state}
use proofs.Names.{array_after_events, is_writing, moved_count, reply_now, task_if, task_with, process_few, FitsBus}
use proofs.{Names.{run_count}, Runs.Contents.{HasShortUnits, HasShortUnitsIf, gives_few, context_at_short, event_short}}
use proofs.Runs.Contents.{start_short, settled_start_short}
use Rattle.due_model.specs.array_model.specs.ArrayHistory as Play
use Rattle.due_model.specs.array_model.specs.Steps

-- No run has more than 2^43 bytes.
abbrev pub HasShortRuns : ScenarioValue → Type 0
HasShortRuns s = (p : List Row) (n : Connection) → run_count s p n ≤ 2 ^ 43

-- ---- the array, row by row

events_short : (s : ScenarioValue) (shown : List Event) (o : Option Array) → HasShortUnitsIf o
    → HasShortUnitsIf (array_after_events s o shown)
events_short s [] o h = h
events_short s (event ∷ shown) o h = event_short s event (array_after_events s o shown) (events_short s shown o h)

array_short : (s : ScenarioValue) (p : List Row) → FitsBus s → HasShortUnitsIf (run_state s p).array
array_short s [] fits = settled_start_short s fits
array_short s (row ∷ p) fits =
    let k : RunState = run_state s p in
    events_short s (row_events_by s k.story (row_reading k.story.bus_state row) row) k.array (array_short s p fits)

or_start_short : (s : ScenarioValue) (o : Option Array) → FitsBus s → HasShortUnitsIf o → HasShortUnits (or_start s o)
or_start_short s None fits h = start_short s fits
or_start_short s (Some a) fits h = h

-- ---- how many bytes a process moves, and a run has

moved_few : (c : Process) (r : Reply) → length c.sent ≤ 65536 → length r.bytes ≤ 2 ^ 43 → moved_count c r ≤ 2 ^ 43
moved_few c r sent given = go (r.status == GOOD) (is_writing c)
  where
    go : (a b : Bool) → length (if b then (if a then c.sent else []) else r.bytes) ≤ 2 ^ 43
    go true true = omega (arith, sent)
    go false true = omega arith
    go a false = given

cut : (start step moved : ℕ) → min (start + step) moved - start ≤ moved
cut start step moved = omega arith

first_part : (step moved : ℕ) (first shorter : Bool) → nat_lt step moved ≡ shorter
    → (if first && shorter then step else moved) - 0 ≤ moved
first_part step moved false shorter e = omega arith
first_part step moved true false e = omega arith
first_part step moved true true e = let less = ltb-true step moved e in omega (arith, less)

part_of_all : (policy : Policy) (size moved m : ℕ)
    → (run_by policy size moved m).end - (run_by policy size moved m).start ≤ moved
part_of_all Policy.Never size moved m = omega arith
part_of_all Policy.Command size moved m = omega arith
part_of_all (Policy.Burst most) size moved m = cut (m * (most * size)) (most * size) moved
part_of_all (Policy.NoSave most) size moved m =
    first_part (most * size) moved (m == 0) (nat_lt (most * size) moved) refl

run_in_all : (policy : Policy) (blocks : Option ℕ) (size moved m : ℕ)
    → (run_in policy blocks size moved m).end - (run_in policy blocks size moved m).start ≤ moved
run_in_all policy None size moved m = omega arith
run_in_all policy (Some blocks) size moved m = part_of_all policy size moved m

pub run_within : (policy : Policy) (t : Task) → run_length policy t ≤ t.moved
run_within policy t = run_in_all policy t.blocks t.size t.moved t.runs

-- ---- any rows

task_few : (s : ScenarioValue) (k : RunState) (policy : Policy) (o : Option Process) → HasShortUnits (array_of s k)
    → ((c : Process) → o ≡ Some c → length c.sent ≤ 65536) → run_length_if policy (task_if s k o) ≤ 2 ^ 43
task_few s k policy None h f = omega arith
task_few s k policy (Some c) h f =
    let a : Array = array_of s k in
    let given = (gives_few (Steps.context_at a (nexus_of c) (unit_state_at a.units c.target c.unit)) c.cdb c.sent
    (context_at_short a (nexus_of c) c.target c.unit h)).bytes in
    let t : Task = task_with a (progress_in k.progress c.id) c
    (carried_here k c.id) (reply_now a c) (Play.reply_in a.replies c.id) in
    let part = run_within policy t in
    let all = moved_few c (reply_now a c) (f c refl) given in
    omega (arith, part, all)

served_few : (s : ScenarioValue) (i : Option Item) (c : Process) → FitsBus s → process_item s i ≡ Some c
    → length c.sent ≤ 65536
served_few s None c fits e = absurd cc
served_few s (Some (process id)) c fits e = process_few s id c fits e
served_few s (Some (abort n)) c fits e = absurd cc

pub runs_are_short : (s : ScenarioValue) → FitsBus s → HasShortRuns s
runs_are_short s fits p n =
    let k : RunState = run_state s p in
    task_few s k (policy_of (target_def_of s n.target)) (process_served s k)
    (or_start_short s k.array fits (array_short s p fits)) (λ q e. served_few s k.served q fits e)
