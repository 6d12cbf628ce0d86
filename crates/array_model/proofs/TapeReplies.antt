-- What a tape answers: GOOD, or CHECK CONDITION with one of four senses, which names no more than the command counts.
-- It depends neither on what is sent, nor, but for REQUEST SENSE, on what is stored (8.2.14, 10.2).
use Rattle.std.proofs.Common.{ℕ, ◌≡◌, ◌≤◌, ◌<◌, ◌^◌, Bool, true, false, ◌⊎◌, inl, inr, List, [], refl, arith}
use Rattle.std.specs.Prelude.{nat_abs, length, take, min, ◌-◌, ◌==◌, Ok, if◌then◌else◌}
use Rattle.cdb_codec.specs.Kinds.{is_tape_request_sense}
use Rattle.cdb_codec.specs.Replies.{FitsSense, sense_data, tape_inquiry_data}
use Rattle.cdb_codec.specs.declared.Sense.{Sense}
use Rattle.cdb_codec.specs.declared.replies.TheConstants.{SENSE_LEN, INQUIRY_LEN}
use Rattle.cdb_codec.specs.declared.sense.TheConstants.{ABORTED_COMMAND}
use Rattle.cdb_codec.specs.declared.status.TheConstants.{GOOD, CHECK_CONDITION}
use Rattle.cdb_codec.specs.declared.tape_command.TapeCommand.{TapeCommand}
use Rattle.cdb_codec.specs.declared.tape_command.TapeCommand.TheVariants as tapes
use Rattle.cdb_codec.specs.declared.tape_operation.TheConstants.{SPACE_BLOCKS, SPACE_FILEMARKS}
use Rattle.array_model.specs.declared.walk.Stop.{Stop}
use Rattle.array_model.specs.declared.walk.Stop.TheVariants as stops
use Rattle.array_model.specs.Reels.{over_blocks, over_filemarks, reel_at, way_from, bytes_ahead}
use Rattle.array_model.specs.Replies.{Reply, good, check_condition}
use Rattle.array_model.specs.TapeExecution.{Tape, TapeExecution, check_after, stop_reply, has_room, filemark_detected}
use Rattle.array_model.specs.TapeExecution.{end_of_data_detected, beginning_of_medium_detected, end_of_medium_detected}
use Rattle.array_model.specs.TapeExecution.{is_forward, walk_execution, space_execution, tape_execution, write_reply}

-- What it meets, where so many are left at most.
pub data IsMet (most : ℕ) : Sense → Type 0 where
  a_filemark : (left : ℕ) → left ≤ most → IsMet most (filemark_detected left)
  an_end : (left : ℕ) → left ≤ most → IsMet most (end_of_data_detected left)
  a_beginning : (left : ℕ) → left ≤ most → IsMet most (beginning_of_medium_detected left)
  no_room : (left : ℕ) → left ≤ most → IsMet most (end_of_medium_detected left)

-- A statement about every reply, by its two kinds.
pub record OfReplies (most : ℕ) (Is : Reply → Type 0) : Type 0 where
  pub good_is : (bytes : List ℕ) → Is (good bytes)
  pub check_is : (bytes : List ℕ) (sense : Sense) → IsMet most sense → Is (check_after bytes sense)

-- How many objects a command counts.
abbrev pub counted : TapeCommand → ℕ
counted tapes.TestUnitReady = 0
counted tapes.Rewind = 0
counted (tapes.RequestSense room) = 0
counted (tapes.Read n) = n
counted (tapes.Write n) = n
counted (tapes.Inquiry room) = 0
counted (tapes.Filemarks n) = n
counted (tapes.Space code count) = nat_abs count

few_left : (n moved : ℕ) → n - moved ≤ n
few_left n moved = omega arith

all_left : (n : ℕ) → n ≤ n
all_left n = omega arith

stopped : (Is : Reply → Type 0) (most : ℕ) → OfReplies most Is → (stop : Stop) (forward : Bool) (left : ℕ)
    (bytes : List ℕ) → left ≤ most → Is (stop_reply stop forward left bytes)
stopped Is most h stops.Count forward left bytes few = h.good_is bytes
stopped Is most h stops.Filemark forward left bytes few =
    h.check_is bytes (filemark_detected left) (a_filemark left few)
stopped Is most h stops.Edge true left bytes few = h.check_is bytes (end_of_data_detected left) (an_end left few)
stopped Is most h stops.Edge false left bytes few =
    h.check_is bytes (beginning_of_medium_detected left) (a_beginning left few)

wrote : (Is : Reply → Type 0) (t : Tape) (n : ℕ) → OfReplies n Is → Is (write_reply t n)
wrote Is t n h = go (n == 0) (has_room t n)
  where
    go : (x y : Bool)
        → Is (if x then good [] else if y then good [] else check_condition (end_of_medium_detected n))
    go true y = h.good_is []
    go false true = h.good_is []
    go false false = h.check_is [] (end_of_medium_detected n) (no_room n (all_left n))

spaced : (Is : Reply → Type 0) (t : Tape) (code : ℕ) (forward : Bool) (n : ℕ) → OfReplies n Is
    → Is (space_execution t code forward n).reply
spaced Is t code forward n h = go (code == SPACE_BLOCKS) (code == SPACE_FILEMARKS)
  where
    by_blocks : TapeExecution
    by_blocks = walk_execution t forward n [] (over_blocks (way_from t.reel forward) n)

    by_filemarks : TapeExecution
    by_filemarks = walk_execution t forward n [] (over_filemarks (way_from t.reel forward) n)

    go : (x y : Bool) → Is (if x then by_blocks else if y then by_filemarks
        else record { reel = reel_at t.reel (length t.reel.objects); reply = good [] }).reply
    go true y =
        let moved : ℕ = (over_blocks (way_from t.reel forward) n).moved in
        stopped Is n h (over_blocks (way_from t.reel forward) n).stop forward (n - moved) [] (few_left n moved)
    go false true =
        let moved : ℕ = (over_filemarks (way_from t.reel forward) n).moved in
        stopped Is n h (over_filemarks (way_from t.reel forward) n).stop forward (n - moved) [] (few_left n moved)
    go false false = h.good_is []

pub of_tape : (Is : Reply → Type 0) (t : Tape) (sense : Sense) (c : TapeCommand) (sent : List ℕ)
    → OfReplies (counted c) Is → Is (tape_execution t sense c sent).reply
of_tape Is t sense tapes.TestUnitReady sent h = h.good_is []
of_tape Is t sense tapes.Rewind sent h = h.good_is []
of_tape Is t sense (tapes.RequestSense room) sent h = h.good_is (take (min room SENSE_LEN) (sense_data sense))
of_tape Is t sense (tapes.Read n) sent h =
    let moved : ℕ = (over_blocks (way_from t.reel true) n).moved in
    stopped Is n h (over_blocks (way_from t.reel true) n).stop true (n - moved) (bytes_ahead t.reel moved)
    (few_left n moved)
of_tape Is t sense (tapes.Write n) sent h = wrote Is t n h
of_tape Is t sense (tapes.Inquiry room) sent h = h.good_is (take (min room INQUIRY_LEN) tape_inquiry_data)
of_tape Is t sense (tapes.Filemarks n) sent h = wrote Is t n h
of_tape Is t sense (tapes.Space code count) sent h = spaced Is t code (is_forward count) (nat_abs count) h

-- ---- it ends GOOD or CHECK CONDITION

pub tape_known : (t : Tape) (sense : Sense) (c : TapeCommand) (sent : List ℕ)
    → ((tape_execution t sense c sent).reply.status ≡ GOOD)
    ⊎ ((tape_execution t sense c sent).reply.status ≡ CHECK_CONDITION)
tape_known t sense c sent = of_tape (λ r. (r.status ≡ GOOD) ⊎ (r.status ≡ CHECK_CONDITION)) t sense c sent
    (record { good_is = λ bytes. inl refl; check_is = λ bytes s m. inr refl })

-- ---- no sense is ABORTED COMMAND, and each fits sense data, where the command counts few

pub tape_plain : (t : Tape) (sense : Sense) (c : TapeCommand) (sent : List ℕ)
    → ((tape_execution t sense c sent).reply.sense.key == ABORTED_COMMAND) ≡ false
tape_plain t sense c sent = of_tape (λ r. (r.sense.key == ABORTED_COMMAND) ≡ false) t sense c sent
    (record { good_is = λ bytes. refl; check_is = λ bytes s m. met s m })
  where
    met : (s : Sense) → IsMet (counted c) s → (s.key == ABORTED_COMMAND) ≡ false
    met _ (a_filemark left few) = refl
    met _ (an_end left few) = refl
    met _ (a_beginning left few) = refl
    met _ (no_room left few) = refl

pub tape_sense_fits : (t : Tape) (sense : Sense) (c : TapeCommand) (sent : List ℕ) → counted c < 2 ^ 24
    → FitsSense (tape_execution t sense c sent).reply.sense
tape_sense_fits t sense c sent h = of_tape (λ r. FitsSense r.sense) t sense c sent (record {
  good_is = λ bytes. (omega arith, omega arith, omega arith, refl, omega arith, tt);
  check_is = λ bytes s m. met s m;
})
  where
    met : (s : Sense) → IsMet (counted c) s → FitsSense s
    met _ (a_filemark left few) = (omega arith, omega arith, omega arith, refl, omega arith, omega (arith, few, h))
    met _ (an_end left few) = (omega arith, omega arith, omega arith, refl, omega arith, omega (arith, few, h))
    met _ (a_beginning left few) = (omega arith, omega arith, omega arith, refl, omega arith, omega (arith, few, h))
    met _ (no_room left few) = (omega arith, omega arith, omega arith, refl, omega arith, omega (arith, few, h))

-- ---- the reply does not depend on what was sent

pub tape_sent_apart : (t : Tape) (sense : Sense) (c : TapeCommand) (a b : List ℕ)
    → (tape_execution t sense c a).reply ≡ (tape_execution t sense c b).reply
tape_sent_apart t sense tapes.TestUnitReady a b = refl
tape_sent_apart t sense tapes.Rewind a b = refl
tape_sent_apart t sense (tapes.RequestSense room) a b = refl
tape_sent_apart t sense (tapes.Read n) a b = refl
tape_sent_apart t sense (tapes.Write n) a b = refl
tape_sent_apart t sense (tapes.Inquiry room) a b = refl
tape_sent_apart t sense (tapes.Filemarks n) a b = refl
tape_sent_apart t sense (tapes.Space code count) a b = refl

-- ---- only REQUEST SENSE looks at the sense

pub tape_stored_apart : (t : Tape) (x y : Sense) (c : TapeCommand) (sent : List ℕ)
    → is_tape_request_sense (Ok c) ≡ false → tape_execution t x c sent ≡ tape_execution t y c sent
tape_stored_apart t x y tapes.TestUnitReady sent e = refl
tape_stored_apart t x y tapes.Rewind sent e = refl
tape_stored_apart t x y (tapes.RequestSense room) sent e = absurd cc
tape_stored_apart t x y (tapes.Read n) sent e = refl
tape_stored_apart t x y (tapes.Write n) sent e = refl
tape_stored_apart t x y (tapes.Inquiry room) sent e = refl
tape_stored_apart t x y (tapes.Filemarks n) sent e = refl
tape_stored_apart t x y (tapes.Space code count) sent e = refl
