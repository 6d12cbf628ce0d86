-- A command that has more data runs to make has them of the runs that are set aside for it: what it moves is what it
-- needs.
use Rattle.measure_laws.proofs
use proofs.Names.{ℕ, ◌≡◌, ◌<◌, ◌∙◌, Bool, true, false, ◌&&◌, List, [], ◌∷◌, Option, Some, None, Result, Ok, Err, refl}
use proofs.Names.{sym, ap, arith, and_parts, same_Some, find, list_any, ◌+◌, ◌*◌, ◌||◌, ◌==◌, if◌then◌else◌, is_some}
use proofs.Names.{nat_le, nat_lt, wrong', blocks_moved, command_of, CdbFault, Command, GOOD, need_is, has_target}
use proofs.Names.{unit_of, is_tape, moved_by, need_of, need_at, ScenarioValue, Obeys, CmdDef, Policy, TargetDef}
use proofs.Names.{UnitDef, good_range, at_disk, none_named, serial_is, array_after, Contents, execution, is_good_range}
use proofs.Names.{range_of, range_in, range_named, Process, command_process, process_by, process_if, process_of}
use proofs.Names.{sense_process, command_at, context_at, Array, UnitState, nexus_of, unit_state_at, data_runs, runs_at}
use proofs.Names.{runs_of, runs_over, policy_of, runs_in, target_def_of, RunState, array_of, blocks_in, is_writing}
use proofs.Names.{moved_count, reply_now, size_of, IsByLine, IsOfLine, AreOfKinds, none_some, some_zero, zero_times}
use proofs.Names.{by_bool, task_here, FitsRuns, fits_runs, lines_now, named_by, disk_named, kinds_now, plain_contents}
use proofs.{Names.{plain_here, fits_reads, moved_good}, Data.Leavings.{HasMore}}

-- ---- an automatic REQUEST SENSE moves no blocks

pub sense_moves_none : (s : ScenarioValue) (q : Process) → process_of s q.id ≡ Some q → q.id.sense ≡ true
    → blocks_in (range_named q) ≡ None
sense_moves_none s q own e = go (command_at s.commands q.id.command) own
  where
    go : (o : Option CmdDef) → process_if s q.id o ≡ Some q → blocks_in (range_named q) ≡ None
    go None z = none_some q z
    go (Some c) z = ap blocks_in (none_named q (ap (λ (t : Process). range_in (command_of t.cdb))
        (sym (same_Some (process_by s q.id c) q z)
        ∙ ap (λ (b : Bool). if b then sense_process s q.id c else command_process s q.id c) e)))

-- ---- what a read or a write of blocks needs, where it is carried out

blocks_needed : (r : Result Command CdbFault) (u : UnitDef) (c : Contents) (blocks : ℕ)
    → blocks_in (range_in r) ≡ Some blocks → c.count ≡ u.blocks → c.size ≡ u.size
    → ((command : Command) → r ≡ Ok command → is_good_range c.count (range_of command) ≡ true)
    → moved_by r (Some u) ≡ blocks * c.size
blocks_needed r u c blocks is count size good = go r is good
  where
    by : (lba m : ℕ) → m ≡ blocks → (nat_lt lba c.count && nat_le (lba + m) c.count) ≡ true
        → (if nat_le (lba + m) u.blocks then m * u.size else 0) ≡ blocks * c.size
    by lba m e g =
        (λ i. if nat_le (lba + m) (sym count i) then m * sym size i else 0)
        ∙ (λ i. if (and_parts (nat_lt lba c.count) (nat_le (lba + m) c.count) g).1 i then m * c.size else 0)
        ∙ ap (λ (x : ℕ). x * c.size) e

    go : (x : Result Command CdbFault) → blocks_in (range_in x) ≡ Some blocks
        → ((command : Command) → x ≡ Ok command → is_good_range c.count (range_of command) ≡ true)
        → moved_by x (Some u) ≡ blocks * c.size
    go (Err fault) e h = none_some blocks e
    go (Ok Command.TestUnitReady) e h = none_some blocks e
    go (Ok (Command.RequestSense room)) e h = none_some blocks e
    go (Ok (Command.Inquiry room)) e h = none_some blocks e
    go (Ok Command.ReadCapacity) e h = none_some blocks e
    go (Ok (Command.Read6 lba count)) e h = by lba (blocks_moved (Command.Read6 lba count))
        (same_Some (blocks_moved (Command.Read6 lba count)) blocks e) (h (Command.Read6 lba count) refl)
    go (Ok (Command.Write6 lba count)) e h = by lba (blocks_moved (Command.Write6 lba count))
        (same_Some (blocks_moved (Command.Write6 lba count)) blocks e) (h (Command.Write6 lba count) refl)
    go (Ok (Command.Read10 lba count)) e h = by lba count (same_Some count blocks e) (h (Command.Read10 lba count) refl)
    go (Ok (Command.Write10 lba count)) e h =
        by lba count (same_Some count blocks e) (h (Command.Write10 lba count) refl)

-- ---- so it needs what it moves

-- The target of a scenario that is found is there.
pub target_there : (s : ScenarioValue) (dev : ℕ) → is_some (target_def_of s dev) ≡ true → has_target s dev ≡ true
target_there s dev = go s.targets
  where
    go : (targets : List TargetDef) → is_some (find (λ (t : TargetDef). t.dev == dev) targets) ≡ true
        → list_any (λ (t : TargetDef). t.dev == dev) targets ≡ true
    go [] e = wrong' e
    go (t ∷ targets) e = by (t.dev == dev) (λ z. go targets z) e
      where
        by : (q : Bool) → (is_some (find (λ (x : TargetDef). x.dev == dev) targets) ≡ true
            → list_any (λ (x : TargetDef). x.dev == dev) targets ≡ true)
            → is_some (if q then Some t else find (λ (x : TargetDef). x.dev == dev) targets) ≡ true
            → (q || list_any (λ (x : TargetDef). x.dev == dev) targets) ≡ true
        by true more z = refl
        by false more z = more z

pub need_moved : (s : ScenarioValue) (k : RunState) (q : Process) (h : IsByLine s q) (blocks : ℕ) → Obeys s
    → k.array ≡ array_after s k.story.history → process_of s q.id ≡ Some q → is_some (target_def_of s q.target) ≡ true
    → blocks_in (range_named q) ≡ Some blocks → (moved_count q (reply_now (array_of s k) q) == 0) ≡ false
    → need_of s h.line ≡ moved_count q (reply_now (array_of s k) q)
need_moved s k q h blocks o is own there named some =
    need_is s h.line (ap (has_target s) (sym h.target) ∙ target_there s q.target there)
    ∙ (λ i. need_at (is_tape s (sym h.target i) (sym h.unit i)) (sym h.cdb i) (unit_of s (sym h.target i)
    (sym h.unit i)))
    ∙ (λ i. need_at (no_tape i) q.cdb (unit_of s q.target q.unit))
    ∙ go (unit_of s q.target q.unit) (unit_state_at a.units q.target q.unit) refl
    (lines_now s k.story.history k.array (sym is) q.target q.unit)
  where
    a : Array
    a = array_of s k

    kinds : AreOfKinds s a
    kinds = kinds_now s k.story.history k.array (sym is)

    disk : q.serial ≡ false
    disk = disk_named q blocks named

    no_tape : is_tape s q.target q.unit ≡ false
    no_tape = sym (serial_is s q own) ∙ disk

    fits : FitsRuns s k q (task_here s k q)
    fits = by_bool (is_writing q) (λ e. fits_runs s k q o is own e) (λ e. fits_reads s k q o is own e)

    all : moved_count q (reply_now a q) ≡ blocks * size_of (unit_state_at a.units q.target q.unit)
    all = fits.fit.moved blocks named some

    go : (u : Option UnitDef) (x : Option UnitState) → unit_state_at a.units q.target q.unit ≡ x → IsOfLine u x
        → moved_by (command_of q.cdb) u ≡ moved_count q (reply_now a q)
    go u None e l = some_zero (moved_count q (reply_now a q)) some
        (all ∙ ap (λ (x : Option UnitState). blocks * size_of x) e ∙ zero_times blocks)
    go None (Some v) e l = absurd l
    go (Some u) (Some v) e l =
        let good : (execution (context_at a (nexus_of q) (Some v)) q.cdb q.sent).reply.status ≡ GOOD =
        ap (λ (x : Option UnitState). (execution (context_at a (nexus_of q) x) q.cdb q.sent).reply.status) (sym e)
        ∙ moved_good a q (plain_here s a q kinds own disk) some in
        blocks_needed (command_of q.cdb) u v.contents blocks (named_by q blocks named) l.0 l.1
        (λ c f. good_range (context_at a (nexus_of q) (Some v)) q.cdb q.sent c
        (plain_contents s a q v kinds own disk e) f good)
        ∙ ap (λ (x : Option UnitState). blocks * size_of x) (sym e) ∙ sym all

-- ---- its runs are those that are set aside

runs_same : (policy : Policy) (r : Result Command CdbFault) (blocks : ℕ) → blocks_in (range_in r) ≡ Some blocks
    → runs_of policy r ≡ runs_in policy (blocks_in (range_in r))
runs_same policy (Err fault) blocks e = none_some blocks e
runs_same policy (Ok k) blocks e =
    elim (range_of k) as (λ o. runs_over policy o ≡ runs_in policy (blocks_in o)) [ None ↦ refl | Some range ↦ refl ]

runs_set_aside : (s : ScenarioValue) (c : CmdDef) (blocks : ℕ) → (need_of s c == 0) ≡ false
    → is_tape s c.target c.unit ≡ false → is_some (target_def_of s c.target) ≡ true
    → blocks_in (range_in (command_of c.cdb)) ≡ Some blocks
    → data_runs s c ≡ runs_in (policy_of (target_def_of s c.target)) (blocks_in (range_in (command_of c.cdb)))
runs_set_aside s c blocks some disk there e =
    (λ i. if some i then 0 else if disk i then 1 else runs_at (target_def_of s c.target) c)
    ∙ go (target_def_of s c.target) there
  where
    go : (o : Option TargetDef) → is_some o ≡ true
        → runs_at o c ≡ runs_in (policy_of o) (blocks_in (range_in (command_of c.cdb)))
    go None z = wrong' z
    go (Some t) z = runs_same t.disc (command_of c.cdb) blocks e

pub runs_left : (s : ScenarioValue) (k : RunState) (q : Process) (h : IsByLine s q) → Obeys s
    → k.array ≡ array_after s k.story.history → process_of s q.id ≡ Some q → is_some (target_def_of s q.target) ≡ true
    → HasMore (policy_of (target_def_of s q.target)) (task_here s k q) → (task_here s k q).runs < data_runs s h.line
runs_left s k q h o is own there m = less (task_here s k q).runs
    (runs_in (policy_of (target_def_of s q.target)) (blocks_in (range_named q))) (data_runs s h.line) m.few all
  where
    needed : (need_of s h.line == 0) ≡ false
    needed = ap (λ (x : ℕ). x == 0) (need_moved s k q h m.blocks o is own there m.blocks_are m.moves) ∙ m.moves

    disk : q.serial ≡ false
    disk = disk_named q m.blocks m.blocks_are

    all : data_runs s h.line ≡ runs_in (policy_of (target_def_of s q.target)) (blocks_in (range_named q))
    all = runs_set_aside s h.line m.blocks needed
        ((λ i. is_tape s (sym h.target i) (sym h.unit i)) ∙ sym (serial_is s q own) ∙ disk)
        (ap (λ (x : ℕ). is_some (target_def_of s x)) (sym h.target) ∙ there)
        (ap (λ (x : List ℕ). blocks_in (range_in (command_of x))) (sym h.cdb) ∙ named_by q m.blocks m.blocks_are)
        ∙ (λ i. runs_in (policy_of (target_def_of s (sym h.target i)))
        (blocks_in (range_in (command_of (sym h.cdb i)))))
        ∙ ap (λ (x : Option (ℕ × ℕ)). runs_in (policy_of (target_def_of s q.target)) (blocks_in x))
        (sym (at_disk q disk))

    less : (l x y : ℕ) → l + 1 < x → y ≡ x → l < y
    less l x y f e = omega (arith, f, e)
