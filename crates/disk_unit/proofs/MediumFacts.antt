-- What a unit of a target rests on of what it holds, a disk or a tape. A further kind of medium owes these facts.
use Rattle.std.proofs.Common.{ℕ, ◌≡◌, ◌+◌, ◌*◌, Bool, true, false, List, [], Option, Some, None, Result, Ok, Err, ◌∙◌}
use Rattle.std.proofs.Common.{refl, sym, arith}
use Rattle.std.specs.Prelude.{◌&&◌, ◌||◌, ◌==◌, is_some, nat_lt, nat_le, if◌then◌else◌}
use Rattle.std.proofs.lemmas.Bool.Decides.{nat_tests}
use Rattle.cdb_codec.specs.Blocks.{blocks_moved}
use Rattle.cdb_codec.specs.Cdb.{command_of}
use Rattle.cdb_codec.specs.Kinds.{is_tape_write}
use Rattle.cdb_codec.specs.TapeCdb.{tape_command_of}
use Rattle.cdb_codec.specs.declared.command.Command.{Command}
use Rattle.cdb_codec.specs.declared.command.Command.TheVariants as commands
use Rattle.cdb_codec.specs.declared.command.CdbFault.{CdbFault}
use Rattle.cdb_codec.specs.declared.status.TheConstants.{GOOD, CHECK_CONDITION}
use Rattle.cdb_codec.specs.declared.tape_command.TapeCommand.{TapeCommand}
use Rattle.cdb_codec.specs.declared.tape_command.TapeCommand.TheVariants as tapes
use Rattle.cdb_codec.proofs.Readings.{writes_alike}
use Rattle.array_model.specs.scenario.specs.Needs.{is_write, moved_by, need_at, tape_moved_by}
use Rattle.array_model.specs.scenario.specs.declared.value.UnitDef.{UnitDef}
use Rattle.array_model.specs.Contents.{Contents, is_reeled}
use Rattle.array_model.specs.Reels.{Reel}
use Rattle.array_model.specs.Execution.{CommandContext, cdb_execution, execution, unit_execution, is_good_range}
use Rattle.array_model.specs.Execution.{range_of, returned_sense, tape_contents, tape_in}
use Rattle.array_model.specs.TapeExecution.{Tape, tape_execution}
use Rattle.array_model.specs.Tapes as at_tapes
use Rattle.array_model.specs.Tapes.{is_walk, tape_after, tape_done}
use Rattle.array_model.proofs.Executed.{of_all}
use Rattle.array_model.proofs.ExecutionFacts.{kind_kept, range_good, sent_apart, undone}
use Rattle.disk_unit.specs.Disk.{blocks_written, disk_context, disk_execution, written_of}
use Rattle.disk_unit.specs.Held.{extent_by, held_execution, held_extent, is_held_carried_out, is_held_changed}
use Rattle.disk_unit.specs.Held.{kind_with, taken_now, taken_with}
use Rattle.disk_unit.proofs.TapeFacts as tape_facts

-- ---- a disk, and a tape

pub as_disk : (c : Contents) (cdb sent : List ℕ) → c.reel ≡ None
    → held_execution c cdb sent ≡ disk_execution c cdb sent
as_disk c cdb sent e = λ i. unit_execution (disk_context c) (e i) cdb sent

pub as_tape : (t : Tape) (cdb sent : List ℕ) → held_execution (tape_contents t) cdb sent ≡ record {
  contents = tape_contents (tape_after t cdb sent);
  reported = false;
  reply = (tape_done t cdb sent).reply;
}
as_tape t cdb sent = refl

-- ---- the contents

-- They stay where the command does not make them new, whatever was sent.
pub contents_stay : (c : Contents) (cdb sent : List ℕ) → is_held_changed c cdb ≡ false
    → (held_execution c cdb sent).contents ≡ c
contents_stay c cdb sent h = by c.reel refl h
  where
    by : (r : Option Reel) → c.reel ≡ r → ((is_some r && is_walk (tape_command_of cdb))
        || (unit_execution (disk_context c) r cdb []).reply.status == GOOD) ≡ false
        → (unit_execution (disk_context c) r cdb sent).contents ≡ c
    by None e k =
        (λ i. (unit_execution (disk_context c) (sym e i) cdb sent).contents)
        ∙ (undone (disk_context c) cdb sent e
        ((λ i. (sent_apart (disk_context c) cdb sent [] i).status == GOOD)
        ∙ (λ i. (unit_execution (disk_context c) (e i) cdb []).reply.status == GOOD) ∙ k)).contents
    by (Some r) e k =
        (λ i. record c { reel = Some (tape_facts.contents_stay (tape_in c r) cdb sent k i).reel })
        ∙ (λ i. record c { reel = sym e i })

-- What was sent comes into them only by a command that ends GOOD.
pub sent_unseen : (c : Contents) (cdb a b : List ℕ) → is_held_carried_out c cdb ≡ false
    → (held_execution c cdb a).contents ≡ (held_execution c cdb b).contents
sent_unseen c cdb a b h = by c.reel refl h
  where
    by : (r : Option Reel) → c.reel ≡ r → ((unit_execution (disk_context c) r cdb []).reply.status == GOOD) ≡ false
        → (unit_execution (disk_context c) r cdb a).contents ≡ (unit_execution (disk_context c) r cdb b).contents
    by None e k =
        let plain : is_held_changed c cdb ≡ false =
        (λ i. (is_some (e i) && is_walk (tape_command_of cdb))
        || (unit_execution (disk_context c) (e i) cdb []).reply.status == GOOD) ∙ k in
        (λ i. (unit_execution (disk_context c) (sym e i) cdb a).contents)
        ∙ contents_stay c cdb a plain ∙ sym (contents_stay c cdb b plain)
        ∙ (λ i. (unit_execution (disk_context c) (e i) cdb b).contents)
    by (Some r) e k = λ i. record c { reel = Some (tape_facts.sent_unseen (tape_in c r) cdb a b k i).reel }

-- ---- what it names

-- By what a unit is, not by what it holds.
names_by : (r q : Option Reel) (n : ℕ) (block : List ℕ) → is_some r ≡ is_some q
    → extent_by (kind_with r n) block ≡ extent_by (kind_with q n) block
names_by None None n block h = refl
names_by None (Some q) n block h = cc
names_by (Some r) None n block h = cc
names_by (Some r) (Some q) n block h = refl

any_count : (r : Option Reel) (n k : ℕ) (block : List ℕ)
    → extent_by (kind_with r n) block ≡ extent_by (kind_with r k) block
any_count None n k block = refl
any_count (Some r) n k block = refl

-- It stays, whatever a command does.
pub names_kept : (c d : Contents) (cdb sent block : List ℕ) → d ≡ (held_execution c cdb sent).contents
    → held_extent d block ≡ held_extent c block
names_kept c d cdb sent block h =
    any_count d.reel d.count c.count block
    ∙ names_by d.reel c.reel c.count block ((λ i. is_some (h i).reel) ∙ kind_kept (disk_context c) cdb sent)

-- ---- what it takes

-- A command that does not end GOOD takes nothing.
pub none_taken : (c : Contents) (cdb : List ℕ) → is_held_carried_out c cdb ≡ false → taken_now c cdb ≡ 0
none_taken c cdb h = by c.reel refl h
  where
    nothing : (n : ℕ) → 0 * n ≡ 0
    nothing n = omega arith

    none_written : (r : Result Command CdbFault) → command_of cdb ≡ r
        → ((cdb_execution (disk_context c) (command_of cdb) []).reply.status == GOOD) ≡ false
        → blocks_written c.count r ≡ 0
    none_written (Ok command) e k =
        let outside : is_good_range c.count (range_of command) ≡ false =
        range_good (disk_context c) command []
        ∙ (λ i. (cdb_execution (disk_context c) (sym e i) []).reply.status == GOOD) ∙ k in
        λ i. if outside i then written_of command else 0
    none_written (Err fault) e k = refl

    by : (r : Option Reel) → c.reel ≡ r → ((unit_execution (disk_context c) r cdb []).reply.status == GOOD) ≡ false
        → taken_with r c cdb ≡ 0
    by None e k = (λ i. none_written (command_of cdb) refl k i * c.size) ∙ nothing c.size
    by (Some r) e k = tape_facts.none_taken (tape_in c r) cdb k

-- One that ends GOOD takes what a write needs at the line of its unit.
pub need_taken : (m : CommandContext) (u : UnitDef) (cdb sent : List ℕ) → m.contents.count ≡ u.blocks
    → m.contents.size ≡ u.size → (execution m cdb sent).reply.status ≡ GOOD
    → (if is_write (command_of cdb) then need_at (is_reeled m.contents) cdb (Some u) else 0)
    ≡ taken_now m.contents cdb
need_taken m u cdb sent count size = of_all m cdb sent (λ x. x.reply.status ≡ GOOD
    → (if is_write (command_of cdb) then need_at (is_reeled m.contents) cdb (Some u) else 0)
    ≡ taken_now m.contents cdb) (record {
      refused_is = λ sense k e. absurd (checked e);
      reported_is = λ sense a e. absurd (checked e);
      disk_is = λ c d is g e.
          (λ i. if is_write (is i) then need_at (is_some (d i)) cdb (Some u) else 0)
          ∙ (λ i. if is_write (Ok c) then moved_by (is i) (Some u) else 0) ∙ at_disk c g
          ∙ (λ i. blocks_written m.contents.count (sym is i) * m.contents.size)
          ∙ (λ i. taken_with (sym d i) m.contents cdb);
      tape_is = λ r c d is e.
          (λ i. if writes_alike cdb c is i then need_at (is_some (d i)) cdb (Some u) else 0)
          ∙ (λ i. if is_tape_write (Ok c) then tape_moved_by (is i) (Some u) else 0) ∙ at_tape r c e
          ∙ (λ i. at_tapes.blocks_taken (tape_in m.contents r) (sym is i) * m.contents.size)
          ∙ (λ i. taken_with (sym d i) m.contents cdb);
    })
  where
    checked : CHECK_CONDITION ≡ GOOD → ⊥
    checked e = omega (arith, e)

    none : (y : Bool) → 0 ≡ (if y then 0 else 0) * m.contents.size
    none true = omega arith
    none false = omega arith

    writes : (lba n : ℕ) → (nat_lt lba m.contents.count && nat_le (lba + n) m.contents.count) ≡ true
        → (if nat_le (lba + n) u.blocks then n * u.size else 0)
        ≡ (if nat_lt lba m.contents.count && nat_le (lba + n) m.contents.count then n else 0) * m.contents.size
    writes lba n g =
        let within : nat_le (lba + n) m.contents.count ≡ true = grind (arith, nat_tests, g) in
        (λ i. if nat_le (lba + n) (sym count i) then n * sym size i else 0)
        ∙ (λ i. if within i then n * m.contents.size else 0)
        ∙ (λ i. (if sym g i then n else 0) * m.contents.size)

    at_disk : (x : Command) → is_good_range m.contents.count (range_of x) ≡ true
        → (if is_write (Ok x) then moved_by (Ok x) (Some u) else 0)
        ≡ blocks_written m.contents.count (Ok x) * m.contents.size
    at_disk commands.TestUnitReady g = none true
    at_disk (commands.RequestSense room) g = none true
    at_disk (commands.Read6 lba count) g =
        none (nat_lt lba m.contents.count && nat_le (lba + blocks_moved (commands.Read6 lba count)) m.contents.count)
    at_disk (commands.Write6 lba count) g = writes lba (blocks_moved (commands.Write6 lba count)) g
    at_disk (commands.Inquiry room) g = none true
    at_disk commands.ReadCapacity g = none true
    at_disk (commands.Read10 lba count) g = none (nat_lt lba m.contents.count && nat_le (lba + count) m.contents.count)
    at_disk (commands.Write10 lba count) g = writes lba count g

    at_tape : (r : Reel) (x : TapeCommand)
        → (tape_execution (tape_in m.contents r) (returned_sense m.present m.stored) x sent).reply.status ≡ GOOD
        → (if is_tape_write (Ok x) then tape_moved_by (Ok x) (Some u) else 0)
        ≡ at_tapes.blocks_taken (tape_in m.contents r) (Ok x) * m.contents.size
    at_tape r tapes.TestUnitReady e = none true
    at_tape r tapes.Rewind e = none true
    at_tape r (tapes.RequestSense room) e = none true
    at_tape r (tapes.Read n) e = none true
    at_tape r (tapes.Write n) e =
        (λ i. n * sym size i)
        ∙ (λ i. sym (tape_facts.written (tape_in m.contents r) n (λ j. e j == GOOD)) i * m.contents.size)
    at_tape r (tapes.Inquiry room) e = none true
    at_tape r (tapes.Filemarks n) e = none true
    at_tape r (tapes.Space code n) e = none true
