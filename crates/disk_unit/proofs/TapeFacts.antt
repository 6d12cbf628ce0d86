-- What a unit of a target rests on of its medium, of a tape.
use Rattle.std.proofs.Common.{ℕ, ◌≡◌, ◌*◌, true, false, List, [], Result, Ok, Err, ◌∙◌, refl, sym, arith, inl, inr}
use Rattle.std.specs.Prelude.{◌||◌, ◌==◌, if◌then◌else◌}
use Rattle.std.proofs.lemmas.Bool.{cases_Bool}
use Rattle.std.proofs.lemmas.Bool.Decides.{nat_tests}
use Rattle.cdb_codec.specs.declared.command.CdbFault.{CdbFault}
use Rattle.cdb_codec.specs.declared.command.CdbFault.TheVariants as faults
use Rattle.cdb_codec.specs.declared.status.TheConstants.{GOOD}
use Rattle.cdb_codec.specs.declared.tape_command.TapeCommand.{TapeCommand}
use Rattle.cdb_codec.specs.declared.tape_command.TapeCommand.TheVariants as tapes
use Rattle.cdb_codec.specs.TapeCdb.{tape_command_of}
use Rattle.array_model.specs.Execution.{Reply, no_sense}
use Rattle.array_model.specs.Reels.{Object, blocks_of, filemarks}
use Rattle.array_model.specs.TapeExecution.{Tape, with_reel, has_room, write_reply, written_reel, tape_cdb_execution}
use Rattle.array_model.specs.Tapes.{tape_after, tape_done, tape_reply, is_walk, is_changed, is_carried_out}
use Rattle.array_model.specs.Tapes.{blocks_written, blocks_taken, taken_now}

abbrev Read : Type 0
Read = Result TapeCommand CdbFault

abbrev reply_of : Tape → Read → Reply
reply_of t r = (tape_cdb_execution t no_sense r []).reply

-- ---- writes

-- One that does not end GOOD has no room, and something to write.
record IsRefused (t : Tape) (n : ℕ) : Type 0 where
  some : (n == 0) ≡ false
  no_room : has_room t n ≡ false

refused : (t : Tape) (n : ℕ) → ((write_reply t n).status == GOOD) ≡ false → IsRefused t n
refused t n h =
    elim (cases_Bool (n == 0)) [
      | inl e ↦ absurd (let no : true ≡ false = rw e at h in cc)
      | inr e ↦ elim (cases_Bool (has_room t n)) [
        | inl r ↦ absurd (let no : true ≡ false = rw (e, r) at h in cc)
        | inr r ↦ record { some = e; no_room = r }
      ]
    ]

stays_unwritten : (t : Tape) (n : ℕ) (objects : List Object) → ((write_reply t n).status == GOOD) ≡ false
    → written_reel t n objects ≡ t.reel
stays_unwritten t n objects h = let k : IsRefused t n = refused t n h in rw (k.some, k.no_room) refl

-- ---- the tape

stays : (t : Tape) (r : Read) (sent : List ℕ) → (is_walk r || (reply_of t r).status == GOOD) ≡ false
    → (tape_cdb_execution t no_sense r sent).reel ≡ t.reel
stays t (Ok tapes.TestUnitReady) sent h = refl
stays t (Ok tapes.Rewind) sent h = cc
stays t (Ok (tapes.RequestSense room)) sent h = refl
stays t (Ok (tapes.Read n)) sent h = cc
stays t (Ok (tapes.Write n)) sent h = stays_unwritten t n (blocks_of t.size n sent) h
stays t (Ok (tapes.Inquiry room)) sent h = refl
stays t (Ok (tapes.Filemarks n)) sent h = stays_unwritten t n (filemarks n) h
stays t (Ok (tapes.Space code count)) sent h = cc
stays t (Err faults.Opcode) sent h = refl
stays t (Err faults.Length) sent h = refl
stays t (Err faults.Field) sent h = refl

-- It stays where the command does not make it new, whatever was sent.
pub contents_stay : (t : Tape) (cdb sent : List ℕ) → is_changed t cdb ≡ false → tape_after t cdb sent ≡ t
contents_stay t cdb sent h = λ i. with_reel t (stays t (tape_command_of cdb) sent h i)

unseen : (t : Tape) (r : Read) (a b : List ℕ) → ((reply_of t r).status == GOOD) ≡ false
    → (tape_cdb_execution t no_sense r a).reel ≡ (tape_cdb_execution t no_sense r b).reel
unseen t (Ok tapes.TestUnitReady) a b h = refl
unseen t (Ok tapes.Rewind) a b h = refl
unseen t (Ok (tapes.RequestSense room)) a b h = refl
unseen t (Ok (tapes.Read n)) a b h = refl
unseen t (Ok (tapes.Write n)) a b h =
    stays_unwritten t n (blocks_of t.size n a) h ∙ sym (stays_unwritten t n (blocks_of t.size n b) h)
unseen t (Ok (tapes.Inquiry room)) a b h = refl
unseen t (Ok (tapes.Filemarks n)) a b h = refl
unseen t (Ok (tapes.Space code count)) a b h = refl
unseen t (Err faults.Opcode) a b h = refl
unseen t (Err faults.Length) a b h = refl
unseen t (Err faults.Field) a b h = refl

-- What was sent comes onto it only by a command that ends GOOD.
pub sent_unseen : (t : Tape) (cdb a b : List ℕ) → is_carried_out t cdb ≡ false
    → tape_after t cdb a ≡ tape_after t cdb b
sent_unseen t cdb a b h = λ i. with_reel t (unseen t (tape_command_of cdb) a b h i)

-- The reply does not depend on what was sent.
apart : (t : Tape) (r : Read) (sent : List ℕ) → (tape_cdb_execution t no_sense r sent).reply ≡ reply_of t r
apart t (Ok tapes.TestUnitReady) sent = refl
apart t (Ok tapes.Rewind) sent = refl
apart t (Ok (tapes.RequestSense room)) sent = refl
apart t (Ok (tapes.Read n)) sent = refl
apart t (Ok (tapes.Write n)) sent = refl
apart t (Ok (tapes.Inquiry room)) sent = refl
apart t (Ok (tapes.Filemarks n)) sent = refl
apart t (Ok (tapes.Space code count)) sent = refl
apart t (Err faults.Opcode) sent = refl
apart t (Err faults.Length) sent = refl
apart t (Err faults.Field) sent = refl

pub sent_apart : (t : Tape) (cdb sent : List ℕ) → (tape_done t cdb sent).reply ≡ tape_reply t cdb
sent_apart t cdb sent = apart t (tape_command_of cdb) sent

-- ---- what it takes

none : (t : Tape) (r : Read) → ((reply_of t r).status == GOOD) ≡ false → blocks_taken t r ≡ 0
none t (Ok tapes.TestUnitReady) h = refl
none t (Ok tapes.Rewind) h = refl
none t (Ok (tapes.RequestSense room)) h = refl
none t (Ok (tapes.Read n)) h = refl
none t (Ok (tapes.Write n)) h = rw (refused t n h).no_room refl
none t (Ok (tapes.Inquiry room)) h = refl
none t (Ok (tapes.Filemarks n)) h = refl
none t (Ok (tapes.Space code count)) h = refl
none t (Err fault) h = refl

-- A command that does not end GOOD takes nothing.
pub none_taken : (t : Tape) (cdb : List ℕ) → is_carried_out t cdb ≡ false → taken_now t cdb ≡ 0
none_taken t cdb h =
    let nothing : 0 * t.size ≡ 0 = omega arith in (λ i. none t (tape_command_of cdb) h i * t.size) ∙ nothing

-- A write that ends GOOD takes all its blocks.
pub written : (t : Tape) (n : ℕ) → ((write_reply t n).status == GOOD) ≡ true → (if has_room t n then n else 0) ≡ n
written t n h =
    elim (cases_Bool (has_room t n)) [
      | inl r ↦ rw r refl
      | inr r ↦ rw r (elim (cases_Bool (n == 0)) [
        | inl e ↦ grind (arith, nat_tests, e)
        | inr e ↦ absurd (let no : false ≡ true = rw (e, r) at h in cc)
      ])
    ]

all : (t : Tape) (r : Read) → ((reply_of t r).status == GOOD) ≡ true → blocks_taken t r ≡ blocks_written r
all t (Ok tapes.TestUnitReady) h = refl
all t (Ok tapes.Rewind) h = refl
all t (Ok (tapes.RequestSense room)) h = refl
all t (Ok (tapes.Read n)) h = refl
all t (Ok (tapes.Write n)) h = written t n h
all t (Ok (tapes.Inquiry room)) h = refl
all t (Ok (tapes.Filemarks n)) h = refl
all t (Ok (tapes.Space code count)) h = refl
all t (Err fault) h = refl

-- One that ends GOOD takes all blocks that it names to write.
pub all_taken : (t : Tape) (cdb : List ℕ) → is_carried_out t cdb ≡ true
    → taken_now t cdb ≡ blocks_written (tape_command_of cdb) * t.size
all_taken t cdb h = λ i. all t (tape_command_of cdb) h i * t.size
