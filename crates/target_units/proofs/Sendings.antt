-- What a write of a scenario sends.
use Rattle.std.proofs.Common.{ℕ, ◌≡◌, ◌*◌, true, false, length, ◌∙◌, refl, sym, arith, Option, Some, None, Result, Ok}
use Rattle.std.proofs.Common.{Err}
use Rattle.std.specs.Prelude.{if◌then◌else◌}
use Rattle.cdb_codec.specs.Cdb.{command_of}
use Rattle.cdb_codec.specs.declared.command.Command.{Command}
use Rattle.cdb_codec.specs.declared.command.CdbFault.{CdbFault}
use Rattle.cdb_codec.specs.declared.status.TheConstants.{GOOD}
use Rattle.scenario.specs.Lookups.{has_target}
use Rattle.scenario.specs.Needs.{is_write}
use Rattle.scenario.specs.Value.{ScenarioValue}
use Rattle.array_model.specs.Contents.{Contents}
use Rattle.array_model.specs.Execution.{execution, is_good_range, range_of, is_request_sense}
use Rattle.array_model.specs.Order.{count_in, range_in}
use Rattle.array_model.specs.Processes.{Process, process_of}
use Rattle.array_model.specs.Seats.{seat_of, contents_of, context_of}
use Rattle.array_model.specs.Units.{Array, UnitState, unit_state_at}
use Rattle.due_model.specs.Tasks.{reply_now, size_of}
use Rattle.disk_unit.specs.Disk.{blocks_written, written_of}
use Rattle.disk_unit.specs.Held.{taken_now, taken_with}
use Rattle.scsi_device.specs.Lines.{FitsBus}
use Rattle.scsi_device.proofs.Finds.{none_is}
use Rattle.target_units.specs.Rooms.{AreOfKinds, AreOfLines}
use Rattle.target_units.proofs.Rooms.{plain_id, reeled_at, sends}
use Rattle.array_model.proofs.NamedBlocks.{serial_is}
use Rattle.array_model.proofs.ExecutionFacts.{good_range}
use Rattle.target_units.proofs.UnitTellings.{reply_same}
use Rattle.cdb_codec.specs.declared.command.Command.TheVariants as commands

write_id : (s : ScenarioValue) (p : Process) → process_of s p.id ≡ Some p → is_write (command_of p.cdb) ≡ true
    → p.id.sense ≡ false
write_id s p e writes = plain_id s p e (no_sense (command_of p.cdb) writes)
  where
    no_sense : (r : Result Command CdbFault) → is_write r ≡ true → is_request_sense r ≡ false
    no_sense (Err fault) k = cc
    no_sense (Ok commands.TestUnitReady) k = cc
    no_sense (Ok (commands.RequestSense room)) k = cc
    no_sense (Ok (commands.Read6 lba count)) k = cc
    no_sense (Ok (commands.Write6 lba count)) k = refl
    no_sense (Ok (commands.Inquiry room)) k = cc
    no_sense (Ok commands.ReadCapacity) k = cc
    no_sense (Ok (commands.Read10 lba count)) k = cc
    no_sense (Ok (commands.Write10 lba count)) k = refl

-- The blocks of a write that is carried out are those that it names.
pub written_named : (c : Contents) (r : Result Command CdbFault) → is_write r ≡ true
    → ((command : Command) → r ≡ Ok command → is_good_range c.count (range_of command) ≡ true)
    → blocks_written c.count r ≡ count_in (range_in r)
written_named c (Err fault) k good = cc
written_named c (Ok command) k good =
    (λ i. if good command refl i then written_of command else 0) ∙ (λ i. if k i then count_in (range_of command) else 0)

-- It sends the bytes that it takes.
pub taken_sent : (s : ScenarioValue) (a : Array) (p : Process) → FitsBus s
    → AreOfLines s a → AreOfKinds s a → has_target s p.target ≡ true → process_of s p.id ≡ Some p
    → is_write (command_of p.cdb) ≡ true → (reply_now a p).status ≡ GOOD
    → taken_now (contents_of (unit_state_at a.units p.target p.unit)) p.cdb ≡ length p.sent
taken_sent s a p fits lines kinds target is writes good =
    sym ((sends s a p fits lines kinds target is (write_id s p is writes)).bytes
    ((λ i. (reply_same a p.target p.unit p.initiator p.cdb p refl refl refl refl i).status) ∙ good))

-- At a disk those of the blocks that it names.
pub named : (s : ScenarioValue) (a : Array) (p : Process) → FitsBus s → AreOfLines s a → AreOfKinds s a
    → has_target s p.target ≡ true → process_of s p.id ≡ Some p → p.serial ≡ false
    → is_write (command_of p.cdb) ≡ true → (reply_now a p).status ≡ GOOD
    → count_in (range_in (command_of p.cdb)) * size_of (unit_state_at a.units p.target p.unit) ≡ length p.sent
named s a p fits lines kinds target is disk writes good =
    go (unit_state_at a.units p.target p.unit) refl
  where
    plain : (contents_of (unit_state_at a.units p.target p.unit)).reel ≡ None
    plain = none_is (contents_of (unit_state_at a.units p.target p.unit)).reel
        (reeled_at s a p.target p.unit lines kinds ∙ sym (serial_is s p is) ∙ disk)

    all : blocks_written (contents_of (unit_state_at a.units p.target p.unit)).count (command_of p.cdb)
        * (contents_of (unit_state_at a.units p.target p.unit)).size ≡ length p.sent
    all = (λ i. taken_with (sym plain i) (contents_of (unit_state_at a.units p.target p.unit)) p.cdb)
        ∙ taken_sent s a p fits lines kinds target is writes good

    status : (execution (context_of (seat_of a p.target p.unit) p.initiator) p.cdb p.sent).reply.status ≡ GOOD
    status = (λ i. (reply_same a p.target p.unit p.initiator p.cdb p refl refl refl refl i).status) ∙ good

    go : (x : Option UnitState) → unit_state_at a.units p.target p.unit ≡ x
        → count_in (range_in (command_of p.cdb)) * size_of (unit_state_at a.units p.target p.unit) ≡ length p.sent
    go None f =
        let blocks : ℕ = blocks_written
        (contents_of (unit_state_at a.units p.target p.unit)).count (command_of p.cdb) in
        let count : ℕ = count_in (range_in (command_of p.cdb)) in
        let nothing : count * 0 ≡ blocks * 0 = omega arith in
        (λ i. count * size_of (f i)) ∙ nothing ∙ (λ i. blocks * (contents_of (sym f i)).size) ∙ all
    go (Some v) f =
        let count : blocks_written (contents_of (unit_state_at a.units p.target p.unit)).count (command_of p.cdb)
        ≡ count_in (range_in (command_of p.cdb)) = written_named
        (contents_of (unit_state_at a.units p.target p.unit)) (command_of p.cdb) writes (λ command e.
        good_range (context_of (seat_of a p.target p.unit) p.initiator) p.cdb p.sent command plain e status) in
        (λ i. sym count i * size_of (f i))
        ∙ (λ i. blocks_written (contents_of (unit_state_at a.units p.target p.unit)).count (command_of p.cdb)
        * (contents_of (sym f i)).size) ∙ all
