-- A target of a scenario that obeys the rules of its text moves one block at least in each run.
use Rattle.trace_laws.proofs
use proofs.Names.{ℕ, ◌≡◌, Bool, true, false, cond, List, [], ◌∷◌, Some, Ok, sym, ap, subst, ◌∙◌, ◌*◌, length, Option}
use proofs.Names.{None, Result, Err, refl, true≢false, ◌==◌, not, inl, inr, eqb-true, same_Some, AllByRecursion, find}
use proofs.Names.{if◌then◌else◌, is_some, Event, command_of, CdbFault, Command, GOOD, bind_ok, ok_is, within_ok}
use proofs.Names.{read_policy, target_line, Said, is_tape, has_device, has_target, unit_of, need_at, is_write, need_of}
use proofs.Names.{sent_of, guard, within, in_8, period_in, policy_in, target_def, ScenarioValue, said_policy, Obeys}
use proofs.Names.{LATENCY_LIMIT, RETRY_LIMIT, TARGET_OFFSET_LIMIT, SEEK_LIMIT, BURST_LIMIT, Policy, TargetDef, UnitDef}
use proofs.Names.{absent_executed, good_range, named_either, serial_is, array_after, reply_in, execution, needs_unit}
use proofs.Names.{range_in, count_in, range_named, Process, process_of, Reel, contents_of, context_of, seat_of}
use proofs.Names.{context_at, Array, UnitState, nexus_of, unit_state_at, starting_array, blocks_written, taken_now}
use proofs.Names.{taken_with, policy_of, Task, target_def_of, progress_in, RunState, or_start, array_of, carried_here}
use proofs.Names.{is_writing, size_of, blocks_in, reply_now, moved_count, task_with, obeys_fits, command_fits}
use proofs.Names.{target_by, IsCommandLine, by_line, lines_always, lines_start, sends, kinds_always, kinds_start}
use proofs.Names.{written_named, start_settled, IsOfLine, AreOfLines, AreOfKinds, IsOfKind, policy_for, Any, each_line}
use proofs.Names.{none_some, zero_times, by_bool, by_option, context_same, step_in, run_step, writer_plain}
use proofs.Runs.Parts.{HasMost, RunsFit}

abbrev HasMostIn : TargetDef → Type 0
HasMostIn t = HasMost t.disc

policy_most : (x : Policy) → policy_in (said_policy x) ≡ Ok x → HasMost x
unfolding policy_in
policy_most Policy.Never e = tt
policy_most Policy.Command e = tt
policy_most (Policy.Burst n) e =
    let a = bind_ok (within (Some n) 1 BURST_LIMIT) _ (Policy.Burst n) e in
    subst HasMost (ok_is _ (Policy.Burst n) a.2) (within_ok (Some n) 1 BURST_LIMIT a.0 a.1).1
policy_most (Policy.NoSave n) e =
    let a = bind_ok (within (Some n) 1 BURST_LIMIT) _ (Policy.NoSave n) e in
    subst HasMost (ok_is _ (Policy.NoSave n) a.2) (within_ok (Some n) 1 BURST_LIMIT a.0 a.1).1

target_most : (s : ScenarioValue) (x : Said) (t : TargetDef) → target_by s x ≡ Ok t → HasMostIn t
unfolding target_def
target_most s (target_line f) t e =
    let b1 = bind_ok (in_8 f.device) _ t e in
    let b2 = bind_ok (within f.latency 0 LATENCY_LIMIT) _ t b1.2 in
    let b3 = bind_ok (within f.retries 0 RETRY_LIMIT) _ t b2.2 in
    let b4 = bind_ok (policy_in f.disc) _ t b3.2 in
    let b5 = bind_ok (within f.seek 0 SEEK_LIMIT) _ t b4.2 in
    let b6 = bind_ok (period_in f.period) _ t b5.2 in
    let b7 = bind_ok (within f.offset 0 TARGET_OFFSET_LIMIT) _ t b6.2 in
    let b8 = bind_ok (guard 5 (not (has_device s b1.0))) _ t b7.2 in
    subst HasMostIn (ok_is _ t b8.2) (policy_most b4.0 (ap policy_in (sym (read_policy f.disc b4.0 b4.1).same) ∙ b4.1))
target_most s _ t e = absurd cc

most_lines : (s : ScenarioValue) → Obeys s → AllByRecursion HasMostIn s.targets
most_lines s o = (each_line Any HasMostIn Any Any
    (record { host = λ x f d e. tt; target = target_most; command = λ x f d e. tt; abort = λ x f d e. tt }) s o).targets

found_most : (dev : ℕ) (ts : List TargetDef) → AllByRecursion HasMostIn ts
    → HasMost (policy_of (find (λ (t : TargetDef). t.dev == dev) ts))
found_most dev [] a = tt
found_most dev (t ∷ ts) a = go (t.dev == dev) (found_most dev ts a.1)
  where
    go : (q : Bool) → HasMost (policy_of (find (λ (x : TargetDef). x.dev == dev) ts))
        → HasMost (policy_of (cond q (Some t) (find (λ (x : TargetDef). x.dev == dev) ts)))
    go true e = a.0
    go false e = e

pub policies_most : (s : ScenarioValue) (dev : ℕ) → Obeys s → HasMost (policy_of (target_def_of s dev))
policies_most s dev o = found_most dev s.targets (most_lines s o)

-- ---- A process that writes moves all the bytes of its blocks, or none; and a unit keeps the size of its blocks.

-- ---- the blocks of units

lines_first : (s : ScenarioValue) → AreOfLines s (starting_array s)
lines_first s = subst (λ (a : Array). AreOfLines s a) (start_settled s) (lines_start s)

pub lines_now : (s : ScenarioValue) (history : List Event) (o : Option Array) → array_after s history ≡ o
    → AreOfLines s (or_start s o)
lines_now s history None e = lines_first s
lines_now s history (Some a) e = lines_always s history a e

-- ---- a unit has a reel just where its line is that of a tape

pub kinds_now : (s : ScenarioValue) (history : List Event) (o : Option Array) → array_after s history ≡ o
    → AreOfKinds s (or_start s o)
kinds_now s history None e = subst (λ (a : Array). AreOfKinds s a) (start_settled s) (kinds_start s)
kinds_now s history (Some a) e = kinds_always s history a e

no_reel : (o : Option Reel) → is_some o ≡ false → o ≡ None
no_reel None e = refl
no_reel (Some r) e = absurd (true≢false e)

-- One whose blocks are named is at a disk.
pub disk_named : (q : Process) (blocks : ℕ) → blocks_in (range_named q) ≡ Some blocks → q.serial ≡ false
disk_named q blocks e = by_bool q.serial
    (λ serial. none_some blocks (sym (λ i. blocks_in (if serial i then None else range_in (command_of q.cdb))) ∙ e))
    (λ disk. disk)

pub plain_contents : (s : ScenarioValue) (a : Array) (q : Process) (u : UnitState) → AreOfKinds s a
    → process_of s q.id ≡ Some q → q.serial ≡ false → unit_state_at a.units q.target q.unit ≡ Some u
    → u.contents.reel ≡ None
plain_contents s a q u kinds own disk e = no_reel u.contents.reel
    (subst (IsOfKind (is_tape s q.target q.unit)) e (kinds q.target q.unit) ∙ sym (serial_is s q own) ∙ disk)

same_size : (o : Option UnitDef) (x y : Option UnitState) → IsOfLine o x → IsOfLine o y → size_of x ≡ size_of y
same_size None None None h e = refl
same_size None None (Some v) h e = absurd e
same_size None (Some u) y h e = absurd h
same_size (Some d) None y h e = absurd h
same_size (Some d) (Some u) None h e = absurd e
same_size (Some d) (Some u) (Some v) h e = h.1 ∙ sym e.1

pub size_is : (s : ScenarioValue) (a : Array) (t m : ℕ) → AreOfLines s a
    → size_of (unit_state_at a.units t m) ≡ size_of (unit_state_at (starting_array s).units t m)
size_is s a t m h = same_size (unit_of s t m) (unit_state_at a.units t m) (unit_state_at (starting_array s).units t m)
    (h t m) (lines_first s t m)

-- ---- a write

-- It names so many blocks.
pub blocks_named : (r : Result Command CdbFault) → is_write r ≡ true
    → blocks_in (range_in r) ≡ Some (count_in (range_in r))
blocks_named (Err fault) e = absurd (true≢false (sym e))
blocks_named (Ok Command.TestUnitReady) e = absurd (true≢false (sym e))
blocks_named (Ok (Command.RequestSense room)) e = absurd (true≢false (sym e))
blocks_named (Ok (Command.Read6 lba count)) e = absurd (true≢false (sym e))
blocks_named (Ok (Command.Write6 lba count)) e = refl
blocks_named (Ok (Command.Inquiry room)) e = absurd (true≢false (sym e))
blocks_named (Ok Command.ReadCapacity) e = absurd (true≢false (sym e))
blocks_named (Ok (Command.Read10 lba count)) e = absurd (true≢false (sym e))
blocks_named (Ok (Command.Write10 lba count)) e = refl

-- It names the blocks of its command, if it names any.
pub named_by : (q : Process) (blocks : ℕ) → blocks_in (range_named q) ≡ Some blocks
    → blocks_in (range_in (command_of q.cdb)) ≡ Some blocks
named_by q blocks e =
    elim (named_either q) [ inl z ↦ none_some blocks (sym (ap blocks_in z) ∙ e) | inr z ↦ sym (ap blocks_in z) ∙ e ]

pub none_sent : (s : ScenarioValue) (q : Process) → Obeys s → process_of s q.id ≡ Some q → is_writing q ≡ true
    → has_target s q.target ≡ false → length q.sent ≡ 0
unfolding need_of sent_of
none_sent s q o own w e =
    let by = by_line s q own (writer_plain s q own w) in
    let line : IsCommandLine s by.line = command_fits s q.id.command by.line (obeys_fits s o) by.is in
    ap (λ (x : List ℕ). length x) by.sent ∙ line.sent
    ∙ (λ i. if is_write (command_of by.line.cdb) then (if (ap (has_target s) (sym by.target) ∙ e) i
    then need_at (is_tape s by.line.target by.line.unit) by.line.cdb (unit_of s by.line.target by.line.unit)
    else 0) else 0)
    ∙ nothing (is_write (command_of by.line.cdb))
  where
    nothing : (b : Bool) → (let m : ℕ = if b then 0 else 0 in m) ≡ 0
    nothing true = refl
    nothing false = refl

-- Of a unit that is not there.
pub absent_moves : (a : Array) (c : Process) → unit_state_at a.units c.target c.unit ≡ None → needs_unit c.cdb ≡ true
    → moved_count c (reply_now a c) ≡ 0
absent_moves a c e f =
    (λ i. moved_count c (execution (context_at a (nexus_of c) (e i)) c.cdb c.sent).reply)
    ∙ (λ i. moved_count c (absent_executed (context_at a (nexus_of c) None) c.cdb c.sent f i).reply)
    ∙ none (is_writing c)
  where
    none : (b : Bool) → (let bytes : List ℕ = if b then [] else [] in length bytes) ≡ 0
    none true = refl
    none false = refl

-- The bytes that it moves, where it would be carried out now.
moved_all : (s : ScenarioValue) (a : Array) (q : Process) → Obeys s → AreOfLines s a → AreOfKinds s a
    → process_of s q.id ≡ Some q → q.serial ≡ false → is_writing q ≡ true → (moved_count q (reply_now a q) == 0) ≡ false
    → moved_count q (reply_now a q)
    ≡ count_in (range_in (command_of q.cdb)) * size_of (unit_state_at a.units q.target q.unit)
moved_all s a q o lines kinds own disk w some =
    by_bool ((reply_now a q).status == GOOD)
    (λ e.
    by_bool (has_target s q.target)
    (λ there. moved true e ∙ carried (eqb-true (reply_now a q).status GOOD e) there)
    (λ there. zero_moved (moved true e ∙ none_sent s q o own w there)))
    (λ e. zero_moved (moved false e))
  where
    moved : (g : Bool) → ((reply_now a q).status == GOOD) ≡ g
        → moved_count q (reply_now a q) ≡ length (if g then q.sent else [])
    moved g e = (λ i. length (if w i then (if e i then q.sent else []) else (reply_now a q).bytes))

    zero_moved : {A : Type 0} → moved_count q (reply_now a q) ≡ 0 → A
    zero_moved e = absurd (true≢false (sym (ap (λ (x : ℕ). x == 0) e) ∙ some))

    carried : (reply_now a q).status ≡ GOOD → has_target s q.target ≡ true
        → length q.sent ≡ count_in (range_in (command_of q.cdb)) * size_of (unit_state_at a.units q.target q.unit)
    carried good there = by_option (unit_state_at a.units q.target q.unit)
        (λ e. let none : length q.sent ≡ 0 = all ∙ ap (λ (y : Option UnitState). taken_now (contents_of y) q.cdb) e
        ∙ zero_times (blocks_written 0 (command_of q.cdb)) in
        none ∙ sym (zero_times (count_in (range_in (command_of q.cdb))))
        ∙ ap (λ (y : Option UnitState). count_in (range_in (command_of q.cdb)) * size_of y) (sym e)) (λ u e.
        let written : blocks_written u.contents.count (command_of q.cdb) ≡ count_in (range_in (command_of q.cdb)) =
        written_named u.contents (command_of q.cdb) w (λ x f. good_range (context_at a (nexus_of q) (Some u)) q.cdb
        q.sent x (plain u e) f ((λ i. (execution (context_at a (nexus_of q) (sym e i)) q.cdb q.sent).reply.status)
        ∙ good)) in all
        ∙ ap (λ (y : Option UnitState). taken_now (contents_of y) q.cdb) e
        ∙ (λ i. taken_with (plain u e i) u.contents q.cdb) ∙ ap (λ (y : ℕ). y * u.contents.size) written
        ∙ ap (λ (y : Option UnitState). count_in (range_in (command_of q.cdb)) * size_of y) (sym e))
      where
        plain : (u : UnitState) → unit_state_at a.units q.target q.unit ≡ Some u → u.contents.reel ≡ None
        plain u e = plain_contents s a q u kinds own disk e

        status : (execution (context_of (seat_of a q.target q.unit) q.initiator) q.cdb q.sent).reply.status ≡ GOOD
        status = (λ i. (execution (sym (context_same a q) i) q.cdb q.sent).reply.status) ∙ good

        all : length q.sent ≡ taken_now (contents_of (unit_state_at a.units q.target q.unit)) q.cdb
        all = (sends s a q (obeys_fits s o) lines kinds there own (writer_plain s q own w)).bytes status

-- Its runs fit what it moves, and step by the blocks of its unit.
pub record FitsRuns (s : ScenarioValue) (k : RunState) (q : Process) (t : Task) : Type 0 where
  pub fit : RunsFit (policy_for s q) t
  pub step : step_in (policy_for s q) t.blocks t.size ≡ run_step s q

pub fits_runs : (s : ScenarioValue) (k : RunState) (q : Process) → Obeys s
    → k.array ≡ array_after s k.story.history → process_of s q.id ≡ Some q → is_writing q ≡ true
    → FitsRuns s k q (task_with (array_of s k) (progress_in k.progress q.id) q (carried_here k q.id)
    (reply_now (array_of s k) q) (reply_in (array_of s k).replies q.id))
fits_runs s k q o e own w =
    let lines = lines_now s k.story.history k.array (sym e) in
    let kinds = kinds_now s k.story.history k.array (sym e) in
    record {
      fit = record {
        moved = λ blocks e some. moved_all s (array_of s k) q o lines kinds own (disk_named q blocks e) w some
            ∙ ap (λ (x : ℕ). x * size_of (unit_state_at (array_of s k).units q.target q.unit))
            (same_Some (count_in (range_in (command_of q.cdb))) blocks
            (sym (blocks_named (command_of q.cdb) w) ∙ named_by q blocks e));
        most = policies_most s q.target o;
      };
      step = ap (λ (x : ℕ). step_in (policy_for s q) (blocks_in (range_named q)) x)
          (size_is s (array_of s k) q.target q.unit lines);
    }
