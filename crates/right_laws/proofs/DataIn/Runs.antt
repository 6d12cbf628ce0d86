-- The data runs of a process that does not write: a read of blocks that ends GOOD gives all their bytes (6.6.6, 7.5).
use Rattle.right_laws.proofs
use proofs.Names.{ℕ, ◌≡◌, ◌*◌, Bool, true, false, ◌==◌, ◌∙◌, List, length, Option, Some, None, Result, Ok, Err, refl}
use proofs.Names.{sym, ap, subst, [], eqb-true, same_Some, if◌then◌else◌, wrong, Event, blocks_moved, command_of}
use proofs.Names.{CdbFault, Command, GOOD, is_write, ScenarioValue, Obeys, read_gives, undone, array_after, bytes_at}
use proofs.Names.{CommandContext, command_execution, execution, range_in, range_named, Process, process_of, contents_of}
use proofs.Names.{context_at, Array, UnitState, nexus_of, unit_state_at, length_bytes, RunState, array_of, or_start}
use proofs.Names.{blocks_in, is_writing, moved_count, reply_now, size_of, AreOfKinds, policy_for, step_in, task_here}
use proofs.Names.{policies_most, FitsRuns, lines_now, size_is, named_by, disk_named, kinds_now, plain_contents}
use proofs.Replies.Blocks.{HasWhole, whole_always, whole_start}

-- ---- the bytes of a read

-- Of so many blocks.
record IsRead (r : Result Command CdbFault) (blocks : ℕ) : Type 0 where
  command : Command
  command_is : r ≡ Ok command
  lba : ℕ
  gives : (m : CommandContext) (sent : List ℕ)
      → (command_execution m command sent).reply.bytes ≡ bytes_at m.contents lba blocks

no_blocks : {A : Type 0} (blocks : ℕ) → (let o : Option ℕ = None in o) ≡ Some blocks → A
no_blocks blocks e = absurd cc

is_read : (r : Result Command CdbFault) (blocks : ℕ) → is_write r ≡ false → blocks_in (range_in r) ≡ Some blocks
    → IsRead r blocks
is_read (Err fault) blocks w e = no_blocks blocks e
is_read (Ok Command.TestUnitReady) blocks w e = no_blocks blocks e
is_read (Ok (Command.RequestSense room)) blocks w e = no_blocks blocks e
is_read (Ok (Command.Read6 lba count)) blocks w e = record {
  command = Command.Read6 lba count;
  command_is = refl;
  lba = lba;
  gives = λ m sent. ap (bytes_at m.contents lba) (same_Some (blocks_moved (Command.Read6 lba count)) blocks e);
}
is_read (Ok (Command.Write6 lba count)) blocks w e = wrong w
is_read (Ok (Command.Inquiry room)) blocks w e = no_blocks blocks e
is_read (Ok Command.ReadCapacity) blocks w e = no_blocks blocks e
is_read (Ok (Command.Read10 lba count)) blocks w e = record {
  command = Command.Read10 lba count;
  command_is = refl;
  lba = lba;
  gives = λ m sent. ap (bytes_at m.contents lba) (same_Some count blocks e);
}
is_read (Ok (Command.Write10 lba count)) blocks w e = wrong w

-- ---- what it moves

-- Its unit is a disk, or absent.
abbrev pub IsPlainAt : Array → Process → Type 0
IsPlainAt a q = (context_at a (nexus_of q) (unit_state_at a.units q.target q.unit)).contents.reel ≡ None

-- What moves some bytes there ends GOOD.
pub moved_good : (a : Array) (q : Process) → IsPlainAt a q → (moved_count q (reply_now a q) == 0) ≡ false
    → (reply_now a q).status ≡ GOOD
moved_good a q plain some = go ((reply_now a q).status == GOOD) refl
  where
    either : (b : Bool) → (let bytes : List ℕ = if b then [] else [] in length bytes) ≡ 0
    either true = refl
    either false = refl

    none : ((reply_now a q).status == GOOD) ≡ false → moved_count q (reply_now a q) ≡ 0
    none e =
        let m : CommandContext = context_at a (nexus_of q) (unit_state_at a.units q.target q.unit) in
        (λ i. length (if is_writing q then (if e i then q.sent else []) else (undone m q.cdb q.sent plain e).bytes i))
        ∙ either (is_writing q)

    go : (g : Bool) → ((reply_now a q).status == GOOD) ≡ g → (reply_now a q).status ≡ GOOD
    go true e = eqb-true (reply_now a q).status GOOD e
    go false e = wrong (sym (ap (λ (x : ℕ). x == 0) (none e)) ∙ some)

moved_reads : (a : Array) (q : Process) (blocks : ℕ) → HasWhole a → IsPlainAt a q → is_writing q ≡ false
    → blocks_in (range_in (command_of q.cdb)) ≡ Some blocks → (moved_count q (reply_now a q) == 0) ≡ false
    → moved_count q (reply_now a q) ≡ blocks * size_of (unit_state_at a.units q.target q.unit)
moved_reads a q blocks whole plain reads is some =
    moved ∙ at (unit_state_at a.units q.target q.unit) refl (moved_good a q plain some)
  where
    moved : moved_count q (reply_now a q) ≡ length (reply_now a q).bytes
    moved =
        λ i. length (if reads i then (if (reply_now a q).status == GOOD then q.sent else []) else (reply_now a q).bytes)

    r : IsRead (command_of q.cdb) blocks
    r = is_read (command_of q.cdb) blocks reads is

    at : (x : Option UnitState) → unit_state_at a.units q.target q.unit ≡ x
        → (execution (context_at a (nexus_of q) x) q.cdb q.sent).reply.status ≡ GOOD
        → length (execution (context_at a (nexus_of q) x) q.cdb q.sent).reply.bytes ≡ blocks * size_of x
    at None e good = ap (λ (b : List ℕ). length b) (read_gives (context_at a (nexus_of q) None) q.cdb
        q.sent r.command r.lba blocks refl r.command_is (r.gives (context_at a (nexus_of q) None) q.sent) good)
        ∙ length_bytes (contents_of None) (λ lba. refl) r.lba blocks
    at (Some u) e good = ap (λ (b : List ℕ). length b) (read_gives (context_at a (nexus_of q) (Some u)) q.cdb
        q.sent r.command r.lba blocks ((λ i. (context_at a (nexus_of q) (sym e i)).contents.reel) ∙ plain) r.command_is
        (r.gives (context_at a (nexus_of q) (Some u)) q.sent) good)
        ∙ length_bytes u.contents (subst (λ (x : Option UnitState). (lba : ℕ)
        → length (Rattle.due_model.specs.array_model.specs.Contents.block_at (contents_of x) lba)
        ≡ (contents_of x).size) e (whole q.target q.unit).blocks) r.lba blocks

-- A process that is not serial is at such a unit.
pub plain_here : (s : ScenarioValue) (a : Array) (q : Process) → AreOfKinds s a → process_of s q.id ≡ Some q
    → q.serial ≡ false → IsPlainAt a q
plain_here s a q kinds own disk = go (unit_state_at a.units q.target q.unit) refl
  where
    go : (x : Option UnitState) → unit_state_at a.units q.target q.unit ≡ x
        → (context_at a (nexus_of q) x).contents.reel ≡ None
    go None e = refl
    go (Some u) e = plain_contents s a q u kinds own disk e

pub whole_now : (s : ScenarioValue) (history : List Event) (o : Option Array) → Obeys s → array_after s history ≡ o
    → HasWhole (or_start s o)
whole_now s history None o e = whole_start s o
whole_now s history (Some a) o e = whole_always s history a o e

pub fits_reads : (s : ScenarioValue) (k : RunState) (q : Process) → Obeys s → k.array ≡ array_after s k.story.history
    → process_of s q.id ≡ Some q → is_writing q ≡ false → FitsRuns s k q (task_here s k q)
fits_reads s k q o e own reads = record {
  fit = record {
    moved = λ blocks is some. moved_reads (array_of s k) q blocks (whole_now s k.story.history k.array o (sym e))
        (plain_here s (array_of s k) q (kinds_now s k.story.history k.array (sym e)) own (disk_named q blocks is)) reads
        (named_by q blocks is) some;
    most = policies_most s q.target o;
  };
  step = ap (λ (x : ℕ). step_in (policy_for s q) (blocks_in (range_named q)) x)
      (size_is s (array_of s k) q.target q.unit (lines_now s k.story.history k.array (sym e)));
}
