-- What laws use of an execution, each fact once, by the ways of `Executed` (7.3, 7.9, 8.2.14, 9.2, 10.2). docs/array.md
-- has who uses which.
use Rattle.std.proofs.Common.{ℕ, ◌≡◌, ◌≤◌, ◌+◌, ◌*◌, Bool, true, false, not, ◌&&◌, ◌==◌, ◌∙◌, ◌⊎◌, inl, inr, List, []}
use Rattle.std.proofs.Common.{Option, Some, None, refl, sym, ap, subst, arith, length, take}
use Rattle.std.specs.Prelude.{Result, Ok, Err, is_some, min, if◌then◌else◌}
use Rattle.cdb_codec.proofs.Readings.{senses_alike, shared_alike_in}
use Rattle.cdb_codec.specs.Cdb.{command_of}
use Rattle.cdb_codec.specs.Blocks.{blocks_moved}
use Rattle.cdb_codec.specs.Kinds.{is_tape_request_sense, shared_command, tape_shared_command}
use Rattle.cdb_codec.specs.Replies.{FitsSense, sense_data}
use Rattle.cdb_codec.specs.TapeCdb.{tape_command_of}
use Rattle.cdb_codec.specs.declared.Sense.{Sense}
use Rattle.cdb_codec.specs.declared.replies.TheConstants.{INQUIRY_LEN, SENSE_LEN}
use Rattle.cdb_codec.specs.declared.sense.TheConstants.{ABORTED_COMMAND}
use Rattle.cdb_codec.specs.declared.status.TheConstants.{GOOD, CHECK_CONDITION}
use Rattle.cdb_codec.specs.declared.command.CdbFault.{CdbFault}
use Rattle.cdb_codec.specs.declared.command.CdbFault.TheVariants as faults
use Rattle.cdb_codec.specs.declared.command.Command.{Command}
use Rattle.cdb_codec.specs.declared.command.Command.TheVariants as commands
use Rattle.cdb_codec.specs.declared.operation.TheConstants.{INQUIRY}
use Rattle.cdb_codec.specs.declared.tape_command.TapeCommand.{TapeCommand}
use Rattle.cdb_codec.specs.declared.tape_command.TapeCommand.TheVariants as tapes
use Rattle.scenario.specs.Needs.{is_write}
use Rattle.scenario.specs.declared.value.UnitDef.{UnitDef}
use Rattle.array_model.specs.Contents.{Contents, bytes_at, is_reeled, with_bytes}
use Rattle.array_model.specs.Execution.{CommandContext, Execution, execution, command_execution, range_execution}
use Rattle.array_model.specs.Execution.{reply_execution, reel_execution, check_condition, block_out_of_range, good}
use Rattle.array_model.specs.Execution.{heeds_attention, is_opcode, is_request_sense, is_good_range, range_of}
use Rattle.array_model.specs.Execution.{returned_sense, tape_in}
use Rattle.array_model.specs.Order.{count_in}
use Rattle.array_model.specs.Processes.{sense_block}
use Rattle.array_model.specs.Reels as reels
use Rattle.array_model.specs.Reels.{Reel}
use Rattle.array_model.specs.TapeExecution.{tape_execution}
use Rattle.array_model.proofs.OperationCodes.{heeds_none}
use Rattle.array_model.proofs.Executed.{Executed, refused, reported, at_disk, at_tape, executed, of_all, storing}
use Rattle.array_model.proofs.Executed.{on_tape}
use Rattle.array_model.proofs.Executed.{sense_of_fault, Passes, IsRefused, absent, faulty, outside, faulty_at_tape}
use Rattle.array_model.proofs.Executed.{absent_executed, faulty_executed, outside_executed, carried_executed}
use Rattle.array_model.proofs.Executed.{none_some}
use Rattle.array_model.proofs.Executed.{tape_faulty_executed, tape_executed, reel_stays}
use Rattle.array_model.proofs.TapeCounts.{counts_few}
use Rattle.array_model.proofs.TapeObjects.{AreBytes, AreOfBytes, AreShort, GivesOfBytes, given_bytes, given_few}
use Rattle.array_model.proofs.TapeObjects.{given_short, most_at_tape, objects_few, objects_short, objects_whole}
use Rattle.array_model.proofs.TapeReplies.{tape_known, tape_plain, tape_sense_fits, tape_sent_apart, tape_stored_apart}
use Rattle.array_model.proofs.WholeBlocks.{HasSameExtent, extent_self, bytes_extent, bytes_reel, AreWhole, bytes_whole}

wrong : {A : Type 0} → false ≡ true → A
wrong e = absurd cc

same_Ok : (c d : Command) → (let r : Result Command CdbFault = Ok c in r) ≡ Ok d → c ≡ d
same_Ok c d e = ap or_c e
  where
    or_c : Result Command CdbFault → Command
    or_c (Ok x) = x
    or_c (Err fault) = c

not_good : {A : Type 0} → CHECK_CONDITION ≡ GOOD → A
not_good e = absurd (omega (arith, e))

-- ---- it ends GOOD or CHECK CONDITION

-- What a command that is carried out ends with.
record IsDone (x : Execution) : Type 0 where
  good : x.reply.status ≡ GOOD
  reported : x.reported ≡ false
  plain : (x.reply.sense.key == ABORTED_COMMAND) ≡ false

done : (m : CommandContext) (c : Command) (sent : List ℕ) → IsDone (command_execution m c sent)
done m commands.TestUnitReady sent = record { good = refl; reported = refl; plain = refl }
done m _ sent = record { good = refl; reported = refl; plain = refl }

pub command_good : (m : CommandContext) (c : Command) (sent : List ℕ) → (command_execution m c sent).reply.status ≡ GOOD
command_good m c sent = (done m c sent).good

-- A command without fault ends GOOD where its range is good.
pub range_good : (m : CommandContext) (c : Command) (sent : List ℕ)
    → is_good_range m.contents.count (range_of c) ≡ ((range_execution m c sent).reply.status == GOOD)
range_good m c sent = by (is_good_range m.contents.count (range_of c))
  where
    by : (x : Bool) → x ≡ ((if x then command_execution m c sent
        else reply_execution m (check_condition block_out_of_range)).reply.status == GOOD)
    by true = λ i. sym (command_good m c sent) i == GOOD
    by false = refl

pub status_known : (m : CommandContext) (cdb sent : List ℕ)
    → ((execution m cdb sent).reply.status ≡ GOOD) ⊎ ((execution m cdb sent).reply.status ≡ CHECK_CONDITION)
status_known m cdb sent =
    of_all m cdb sent (λ x. (x.reply.status ≡ GOOD) ⊎ (x.reply.status ≡ CHECK_CONDITION)) (record {
      refused_is = λ sense k. inr refl;
      reported_is = λ sense a. inr refl;
      disk_is = λ c d is g. inl (command_good m c sent);
      tape_is = λ r c d is. tape_known (tape_in m.contents r) (returned_sense m.present m.stored) c sent;
    })

-- ---- REQUEST SENSE without fault changes and reports nothing, ends GOOD, and gives the first bytes of the stored
-- sense

pub record IsSenseBlock (cdb : List ℕ) : Type 0 where
  pub room : ℕ
  pub command_is : command_of cdb ≡ Ok (commands.RequestSense room)

pub sense_block_of : (cdb : List ℕ) → is_request_sense (command_of cdb) ≡ true → IsSenseBlock cdb
sense_block_of cdb h = by (command_of cdb) refl h
  where
    by : (r : Result Command CdbFault) → command_of cdb ≡ r → is_request_sense r ≡ true → IsSenseBlock cdb
    by (Ok (commands.RequestSense room)) e k = record { room = room; command_is = e }
    by _ e k = wrong k

none_needed : (x y : Bool) → (x && (y && false)) ≡ false
none_needed true true = refl
none_needed _ _ = refl

-- A tape reads it alike.
tape_sense : (cdb : List ℕ) (k : IsSenseBlock cdb) → tape_command_of cdb ≡ Ok (tapes.RequestSense k.room)
tape_sense cdb k = by (tape_command_of cdb) (shared_alike_in cdb ∙ ap shared_command k.command_is)
  where
    or_ready : Option TapeCommand → Result TapeCommand CdbFault
    or_ready (Some c) = Ok c
    or_ready None = Ok tapes.TestUnitReady

    by : (x : Result TapeCommand CdbFault) → tape_shared_command x ≡ Some (tapes.RequestSense k.room)
        → x ≡ Ok (tapes.RequestSense k.room)
    by (Ok (tapes.RequestSense room)) e = ap or_ready e
    by (Ok tapes.TestUnitReady) e = ap or_ready e
    by (Ok (tapes.Inquiry room)) e = ap or_ready e
    by (Ok tapes.Rewind) e = none_some (tapes.RequestSense k.room) e
    by (Ok (tapes.Read n)) e = none_some (tapes.RequestSense k.room) e
    by (Ok (tapes.Write n)) e = none_some (tapes.RequestSense k.room) e
    by (Ok (tapes.Filemarks n)) e = none_some (tapes.RequestSense k.room) e
    by (Ok (tapes.Space code count)) e = none_some (tapes.RequestSense k.room) e
    by (Err fault) e = none_some (tapes.RequestSense k.room) e

pub sense_executed : (m : CommandContext) (cdb sent : List ℕ) (k : IsSenseBlock cdb) → execution m cdb sent
    ≡ reply_execution m (good (take (min k.room SENSE_LEN) (sense_data (returned_sense m.present m.stored))))
sense_executed m cdb sent k = by m.contents.reel refl
  where
    passes : Passes m cdb
    passes = record {
      there = (λ i. not m.present && (not (is_opcode cdb INQUIRY) && not (is_request_sense (k.command_is i))))
          ∙ none_needed (not m.present) (not (is_opcode cdb INQUIRY));
      calm = λ sense a. heeds_none cdb (λ i. is_request_sense (k.command_is i));
    }

    by : (o : Option Reel) → m.contents.reel ≡ o → execution m cdb sent
        ≡ reply_execution m (good (take (min k.room SENSE_LEN) (sense_data (returned_sense m.present m.stored))))
    by None d = carried_executed m cdb sent (commands.RequestSense k.room) d passes k.command_is refl
    by (Some r) d = tape_executed m cdb sent r (tapes.RequestSense k.room) d passes (tape_sense cdb k)
        ∙ reel_stays m r (good (take (min k.room SENSE_LEN) (sense_data (returned_sense m.present m.stored)))) d

-- The automatic one gives all of them.
pub sense_fetched : (m : CommandContext) (sent : List ℕ)
    → execution m sense_block sent ≡ reply_execution m (good (sense_data (returned_sense m.present m.stored)))
sense_fetched m sent = sense_executed m sense_block sent (record { room = SENSE_LEN; command_is = refl })

-- ---- only REQUEST SENSE looks at the stored sense

command_apart :
    (m : CommandContext) (x a : Option Sense) (c : Command) (sent : List ℕ) → is_request_sense (Ok c) ≡ false
    → command_execution (record m { stored = x; attention = a }) c sent ≡ command_execution m c sent
command_apart m x a (commands.RequestSense room) sent e = wrong (sym e)
command_apart m x a _ sent e = refl

pub stored_apart : (m : CommandContext) (x : Option Sense) (cdb sent : List ℕ)
    → is_request_sense (command_of cdb) ≡ false → execution (storing m x) cdb sent ≡ execution m cdb sent
stored_apart m x cdb sent h = by (λ y given. execution (storing m y) cdb given) (executed m cdb)
  where
    by : (f : Option Sense → List ℕ → Execution) → Executed m cdb f → f x sent ≡ f m.stored sent
    by f (refused sense k e) = e x sent ∙ sym (e m.stored sent)
    by f (reported sense a k e) = e x sent ∙ sym (e m.stored sent)
    by f (at_disk c d p is g e) =
        e x sent ∙ command_apart m x m.attention c sent ((λ i. is_request_sense (sym is i)) ∙ h) ∙ sym (e m.stored sent)
    by f (at_tape r c d p is e) =
        e x sent ∙ (λ i. reel_execution m (tape_stored_apart (tape_in m.contents r) (returned_sense m.present x)
        (returned_sense m.present m.stored) c sent (ap is_tape_request_sense (sym is) ∙ senses_alike cdb ∙ h) i))
        ∙ sym (e m.stored sent)

-- ---- the reply does not depend on what was sent

pub sent_apart : (m : CommandContext) (cdb a b : List ℕ) → (execution m cdb a).reply ≡ (execution m cdb b).reply
sent_apart m cdb a b = by (λ y given. execution (storing m y) cdb given) (executed m cdb)
  where
    command : (c : Command) → (command_execution m c a).reply ≡ (command_execution m c b).reply
    command commands.TestUnitReady = refl
    command _ = refl

    by : (f : Option Sense → List ℕ → Execution) → Executed m cdb f → (f m.stored a).reply ≡ (f m.stored b).reply
    by f (refused sense k e) = λ i. ((e m.stored a ∙ sym (e m.stored b)) i).reply
    by f (reported sense w k e) = λ i. ((e m.stored a ∙ sym (e m.stored b)) i).reply
    by f (at_disk c d p is g e) = (λ i. (e m.stored a i).reply) ∙ command c ∙ (λ i. (sym (e m.stored b) i).reply)
    by f (at_tape r c d p is e) = (λ i. (e m.stored a i).reply)
        ∙ tape_sent_apart (tape_in m.contents r) (returned_sense m.present m.stored) c a b
        ∙ (λ i. (sym (e m.stored b) i).reply)

-- ---- attentions: one that the command does not heed is as none, and without one nothing is reported

pub attention_apart : (m : CommandContext) (cdb sent : List ℕ) → is_request_sense (command_of cdb) ≡ false
    → heeds_attention cdb ≡ false → execution m cdb sent ≡ execution (record m { attention = None }) cdb sent
attention_apart m cdb sent r h = by (λ y given. execution (storing m y) cdb given) (executed m cdb)
  where
    n : CommandContext
    n = record m { attention = None }

    passes : Passes m cdb → Passes n cdb
    passes p = record { there = p.there; calm = λ sense a. h }

    by : (f : Option Sense → List ℕ → Execution) → Executed m cdb f → f m.stored sent ≡ execution n cdb sent
    by f (refused _ (absent k) e) = e m.stored sent ∙ sym (absent_executed n cdb sent k)
    by f (refused _ (faulty fault d p k) e) = e m.stored sent ∙ sym (faulty_executed n cdb sent fault d (passes p) k)
    by f (refused _ (outside c d p k g) e) = e m.stored sent ∙ sym (outside_executed n cdb sent c d (passes p) k g)
    by f (refused _ (faulty_at_tape reel fault d p k) e) =
        e m.stored sent ∙ sym (tape_faulty_executed n cdb sent reel fault d (passes p) k)
    by f (reported sense a k e) = wrong (sym h ∙ k)
    by f (at_disk c d p is g e) =
        e m.stored sent ∙ sym (command_apart m m.stored None c sent ((λ i. is_request_sense (sym is i)) ∙ r))
        ∙ sym (carried_executed n cdb sent c d (passes p) is g)
    by f (at_tape reel c d p is e) = e m.stored sent ∙ sym (tape_executed n cdb sent reel c d (passes p) is)

pub unreported : (m : CommandContext) (cdb sent : List ℕ) → m.attention ≡ None → (execution m cdb sent).reported ≡ false
unreported m cdb sent n = of_all m cdb sent (λ x. x.reported ≡ false) (record {
  refused_is = λ sense k. refl;
  reported_is = λ sense a. none_some sense (sym n ∙ a);
  disk_is = λ c d is g. (done m c sent).reported;
  tape_is = λ r c d is. refl;
})

-- ---- no sense is ABORTED COMMAND, unless that of the attention is

pub not_aborted : (m : CommandContext) (cdb sent : List ℕ)
    → ((sense : Sense) → m.attention ≡ Some sense → (sense.key == ABORTED_COMMAND) ≡ false)
    → ((execution m cdb sent).reply.sense.key == ABORTED_COMMAND) ≡ false
not_aborted m cdb sent h = of_all m cdb sent (λ x. (x.reply.sense.key == ABORTED_COMMAND) ≡ false) (record {
  refused_is = λ sense k. plain sense k;
  reported_is = λ sense a. h sense a;
  disk_is = λ c d is g. (done m c sent).plain;
  tape_is = λ r c d is. tape_plain (tape_in m.contents r) (returned_sense m.present m.stored) c sent;
})
  where
    by_fault : (fault : CdbFault) → ((sense_of_fault fault).key == ABORTED_COMMAND) ≡ false
    by_fault faults.Opcode = refl
    by_fault _ = refl

    plain : (sense : Sense) → IsRefused m cdb sense → (sense.key == ABORTED_COMMAND) ≡ false
    plain _ (absent k) = refl
    plain _ (faulty fault d p k) = by_fault fault
    plain _ (outside c d p k g) = refl
    plain _ (faulty_at_tape r fault d p k) = by_fault fault

-- ---- one that ends GOOD at a disk was carried out, and the blocks that it names are the unit's

pub record IsCarried (m : CommandContext) (cdb sent : List ℕ) (x : Execution) : Type 0 where
  pub command : Command
  pub command_is : command_of cdb ≡ Ok command
  pub range_is : is_good_range m.contents.count (range_of command) ≡ true
  pub is : x ≡ command_execution m command sent

pub carried_out : (m : CommandContext) (cdb sent : List ℕ) → m.contents.reel ≡ None
    → (execution m cdb sent).reply.status ≡ GOOD → IsCarried m cdb sent (execution m cdb sent)
carried_out m cdb sent disk = of_all m cdb sent (λ x. x.reply.status ≡ GOOD → IsCarried m cdb sent x) (record {
  refused_is = λ sense k e. not_good e;
  reported_is = λ sense a e. not_good e;
  disk_is = λ c d is g e. record { command = c; command_is = is; range_is = g; is = refl };
  tape_is = λ r c d is e. none_some r (sym disk ∙ d);
})

pub good_range : (m : CommandContext) (cdb sent : List ℕ) (c : Command) → m.contents.reel ≡ None
    → command_of cdb ≡ Ok c → (execution m cdb sent).reply.status ≡ GOOD
    → is_good_range m.contents.count (range_of c) ≡ true
good_range m cdb sent c disk is e =
    let h = carried_out m cdb sent disk e in
    subst (λ (d : Command). is_good_range m.contents.count (range_of d) ≡ true)
    (same_Ok h.command c (sym h.command_is ∙ is)) h.range_is

-- A read of these blocks gives them.
pub read_gives : (m : CommandContext) (cdb sent : List ℕ) (c : Command) (lba n : ℕ) → m.contents.reel ≡ None
    → command_of cdb ≡ Ok c → (command_execution m c sent).reply.bytes ≡ bytes_at m.contents lba n
    → (execution m cdb sent).reply.status ≡ GOOD → (execution m cdb sent).reply.bytes ≡ bytes_at m.contents lba n
read_gives m cdb sent c lba n disk is gives e =
    let h = carried_out m cdb sent disk e in
    (λ i. (h.is i).reply.bytes)
    ∙ (λ i. (command_execution m (same_Ok h.command c (sym h.command_is ∙ is) i) sent).reply.bytes) ∙ gives

-- ---- the contents stay, but for the blocks of a write that ends GOOD at a disk, and for the reel of a tape

pub data Changes (m : CommandContext) (cdb sent : List ℕ) (x : Execution) : Type 0 where
  nothing : x.contents ≡ m.contents → Changes m cdb sent x
  blocks : (c : Command) (lba n : ℕ) → m.contents.reel ≡ None → command_of cdb ≡ Ok c → is_write (Ok c) ≡ true
      → range_of c ≡ Some (lba, n) → is_good_range m.contents.count (range_of c) ≡ true → x.reply.status ≡ GOOD
      → x.contents ≡ with_bytes m.contents lba n sent → Changes m cdb sent x
  a_reel : (r next : Reel) → m.contents.reel ≡ Some r → x.contents ≡ record m.contents { reel = Some next }
      → Changes m cdb sent x

pub changes : (m : CommandContext) (cdb sent : List ℕ) → Changes m cdb sent (execution m cdb sent)
changes m cdb sent = of_all m cdb sent (Changes m cdb sent) (record {
  refused_is = λ sense k. nothing refl;
  reported_is = λ sense a. nothing refl;
  disk_is = by;
  tape_is = λ r c d is. a_reel r
      (tape_execution (tape_in m.contents r) (returned_sense m.present m.stored) c sent).reel d refl;
})
  where
    by : (c : Command) → m.contents.reel ≡ None → command_of cdb ≡ Ok c
        → is_good_range m.contents.count (range_of c) ≡ true → Changes m cdb sent (command_execution m c sent)
    by (commands.Write6 lba count) d e g =
        blocks (commands.Write6 lba count) lba (blocks_moved (commands.Write6 lba count)) d e refl refl g refl refl
    by (commands.Write10 lba count) d e g = blocks (commands.Write10 lba count) lba count d e refl refl g refl refl
    by _ d e g = nothing refl

-- What a check or an attention leaves and gives. A tape may move, and give what it met, where it ends otherwise.
pub record IsUndone (m : CommandContext) (x : Execution) : Type 0 where
  pub contents : x.contents ≡ m.contents
  pub bytes : x.reply.bytes ≡ []

pub undone : (m : CommandContext) (cdb sent : List ℕ) → m.contents.reel ≡ None
    → ((execution m cdb sent).reply.status == GOOD) ≡ false → IsUndone m (execution m cdb sent)
undone m cdb sent disk = of_all m cdb sent (λ x. (x.reply.status == GOOD) ≡ false → IsUndone m x) (record {
  refused_is = λ sense k e. record { contents = refl; bytes = refl };
  reported_is = λ sense a e. record { contents = refl; bytes = refl };
  disk_is = λ c d is g e. wrong (sym e ∙ (λ i. command_good m c sent i == GOOD));
  tape_is = λ r c d is e. none_some r (sym disk ∙ d);
})

-- ---- the number of blocks and their size stay, and whether it is a disk or a tape

pub extent_kept : (m : CommandContext) (cdb sent : List ℕ) → HasSameExtent m.contents (execution m cdb sent).contents
extent_kept m cdb sent = by (changes m cdb sent)
  where
    by : Changes m cdb sent (execution m cdb sent) → HasSameExtent m.contents (execution m cdb sent).contents
    by (nothing e) = subst (HasSameExtent m.contents) (sym e) (extent_self m.contents)
    by (blocks c lba n d is w r g good e) =
        subst (HasSameExtent m.contents) (sym e) (bytes_extent n m.contents lba sent)
    by (a_reel r next d e) = subst (HasSameExtent m.contents) (sym e) (record { count = refl; size = refl })

pub kind_kept : (m : CommandContext) (cdb sent : List ℕ)
    → is_some (execution m cdb sent).contents.reel ≡ is_some m.contents.reel
kind_kept m cdb sent = by (changes m cdb sent)
  where
    by : Changes m cdb sent (execution m cdb sent)
        → is_some (execution m cdb sent).contents.reel ≡ is_some m.contents.reel
    by (nothing e) = ap is_reeled e
    by (blocks c lba n d is w r g good e) =
        ap is_reeled e ∙ ap (λ (o : Option Reel). is_some o) (bytes_reel n m.contents lba sent)
    by (a_reel r next d e) = ap is_reeled e ∙ ap (λ (o : Option Reel). is_some o) (sym d)

-- ---- blocks stay whole, where a write that ends GOOD was sent as many bytes as its blocks have: those of a disk

pub whole_kept : (m : CommandContext) (cdb sent : List ℕ) → AreWhole m.contents
    → ((c : Command) (n : ℕ) → m.contents.reel ≡ None → command_of cdb ≡ Ok c → is_write (Ok c) ≡ true
    → count_in (range_of c) ≡ n → is_good_range m.contents.count (range_of c) ≡ true
    → (execution m cdb sent).reply.status ≡ GOOD → length sent ≡ n * m.contents.size)
    → AreWhole (execution m cdb sent).contents
whole_kept m cdb sent h f = by (changes m cdb sent)
  where
    by : Changes m cdb sent (execution m cdb sent) → AreWhole (execution m cdb sent).contents
    by (nothing e) = subst AreWhole (sym e) h
    by (blocks c lba n d is w r g good e) =
        subst AreWhole (sym e) (bytes_whole n m.contents lba sent (f c n d is w (λ i. count_in (r i)) g good) h)
    by (a_reel r next d e) = subst AreWhole (sym e) h

-- And those of a tape.
abbrev pub IsWholeReel : ℕ → Option Reel → Type 0
IsWholeReel size None = Unit {0}
IsWholeReel size (Some r) = reels.AreWhole size r.objects

abbrev pub HasWholeReel : Contents → Type 0
HasWholeReel c = IsWholeReel c.size c.reel

command_reel : (m : CommandContext) (c : Command) (sent : List ℕ)
    → (command_execution m c sent).contents.reel ≡ m.contents.reel
command_reel m (commands.Write6 lba count) sent =
    bytes_reel (blocks_moved (commands.Write6 lba count)) m.contents lba sent
command_reel m (commands.Write10 lba count) sent = bytes_reel count m.contents lba sent
command_reel m _ sent = refl

pub reel_whole : (m : CommandContext) (cdb sent : List ℕ) → HasWholeReel m.contents
    → ((r : Reel) (n : ℕ) → m.contents.reel ≡ Some r → tape_command_of cdb ≡ Ok (tapes.Write n)
    → (execution m cdb sent).reply.status ≡ GOOD → length sent ≡ n * m.contents.size)
    → HasWholeReel (execution m cdb sent).contents
reel_whole m cdb sent h = of_all m cdb sent (λ x. IsSent x → HasWholeReel x.contents) (record {
  refused_is = λ sense k f. h;
  reported_is = λ sense a f. h;
  disk_is = λ c d is g f. subst (IsWholeReel (command_execution m c sent).contents.size)
      (sym (command_reel m c sent ∙ d)) tt;
  tape_is = λ r c d is f. objects_whole (tape_in m.contents r) (returned_sense m.present m.stored) c sent
      (subst (IsWholeReel m.contents.size) d h) (λ n e good. f r n d (is ∙ ap as_read e) good);
})
  where
    IsSent : Execution → Type 0
    IsSent x = (r : Reel) (n : ℕ) → m.contents.reel ≡ Some r → tape_command_of cdb ≡ Ok (tapes.Write n)
        → x.reply.status ≡ GOOD → length sent ≡ n * m.contents.size

    as_read : TapeCommand → Result TapeCommand CdbFault
    as_read c = Ok c

-- ---- what comes back at a tape

-- At most what the command needs at the line of its unit, and of a write nothing.
pub tape_few : (m : CommandContext) (r : Reel) (c : TapeCommand) (sent : List ℕ) (u : UnitDef)
    → m.contents.reel ≡ Some r → m.contents.size ≡ u.size → HasWholeReel m.contents
    → length (on_tape m r c sent).reply.bytes ≤ most_at_tape c u
tape_few m r c sent u d size h = given_few (tape_in m.contents r) (returned_sense m.present m.stored) c sent u size
    (subst (IsWholeReel m.contents.size) d h)

-- Of bytes, where the blocks on it, what is sent and what is stored are of bytes; and then so are the blocks on it.
pub tape_bytes : (m : CommandContext) (r : Reel) (c : TapeCommand) (sent : List ℕ) → AreOfBytes r.objects
    → FitsSense (returned_sense m.present m.stored) → AreBytes sent
    → GivesOfBytes (tape_execution (tape_in m.contents r) (returned_sense m.present m.stored) c sent)
tape_bytes m r c sent h fits a =
    given_bytes (tape_in m.contents r) (returned_sense m.present m.stored) c sent h fits a

-- And its sense fits sense data, where the block is of bytes.
pub tape_fits : (m : CommandContext) (r : Reel) (c : TapeCommand) (cdb sent : List ℕ) → AreBytes cdb
    → tape_command_of cdb ≡ Ok c → FitsSense (on_tape m r c sent).reply.sense
tape_fits m r c cdb sent h e =
    tape_sense_fits (tape_in m.contents r) (returned_sense m.present m.stored) c sent (counts_few cdb c h e)

-- Few, where there are few objects on it, and short ones; and both stay so.
pub record IsShortReel (count most : ℕ) (r : Reel) : Type 0 where
  pub few : length r.objects ≤ count
  pub short : AreShort most r.objects

pub record GivesShort (m : CommandContext) (r : Reel) (most : ℕ) (next : Reel) (given : List ℕ) : Type 0 where
  pub reel : IsShortReel m.contents.count most next
  pub bytes : length given ≤ INQUIRY_LEN + length r.objects * most

pub tape_short : (m : CommandContext) (r : Reel) (c : TapeCommand) (sent : List ℕ) (most : ℕ) → m.contents.size ≤ most
    → IsShortReel m.contents.count most r → GivesShort m r most
    (tape_execution (tape_in m.contents r) (returned_sense m.present m.stored) c sent).reel
    (on_tape m r c sent).reply.bytes
tape_short m r c sent most size h = record {
  reel = record {
    few = objects_few (tape_in m.contents r) (returned_sense m.present m.stored) c sent h.few;
    short = objects_short (tape_in m.contents r) (returned_sense m.present m.stored) c sent most size h.short;
  };
  bytes = given_short (tape_in m.contents r) (returned_sense m.present m.stored) c sent most h.short;
}
