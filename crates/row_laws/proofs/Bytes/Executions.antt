-- What a command gives are bytes, and its sense fits sense data, where its block, what it sends, and the blocks of its
-- unit or what stands on the tape are bytes.
use Rattle.row_laws.proofs
use proofs.Names.{Ok, ◌⊎◌, inl, inr, subst, ℕ, zero, suc, ◌≡◌, ◌<◌, ◌+◌, Bool, true, false, ◌&&◌, List, [], ◌∷◌, take}
use proofs.Names.{replicate, Option, Some, None, refl, arith, ◌==◌, nat_tests, AllByRecursion, list_all, ◌-◌, drop}
use proofs.Names.{if◌then◌else◌, min, nat_lt, AreBytes, plain_fits, data_are_bytes, blocks_moved, sense_data}
use proofs.Names.{inquiry_data, capacity_data, FitsSense, tape_command_of, CdbFault, Command, Sense, SENSE_LEN}
use proofs.Names.{INQUIRY_LEN, CHECK_CONDITION, GOOD, TapeCommand, faulty_at_tape, on_tape, of_all, sense_of_fault}
use proofs.Names.{IsRefused, absent, faulty, outside, tape_bytes, tape_fits, AreOfBytes, tape_known, Contents}
use proofs.Names.{zero_block, touched_block, block_at, touched_with, with_block, bytes_at, with_bytes, tape_in, Reply}
use proofs.Names.{CommandContext, Execution, good, check_condition, returned_sense, reply_execution, write_execution}
use proofs.{Names.{command_execution, execution, sense_of, Reel}, Bytes.Spoken.{small_append, small_take}}

-- ---- blocks

abbrev pub IsByteBlock : (ℕ × List ℕ) → Type 0
IsByteBlock entry = AreBytes entry.1

abbrev pub IsByteReel : Option Reel → Type 0
IsByteReel None = Unit {0}
IsByteReel (Some r) = AreOfBytes r.objects

-- The blocks of a disk, and those on a tape.
pub record HoldsBytes (c : Contents) : Type 0 where
  pub touched : AllByRecursion IsByteBlock c.touched
  pub reel : IsByteReel c.reel

small_drop : (m : ℕ) (xs : List ℕ) → AreBytes xs → AreBytes (drop m xs)
small_drop zero xs a = a
small_drop (suc m) [] a = tt
small_drop (suc m) (x ∷ xs) a = small_drop m xs a.1

zeros : (m : ℕ) → AreBytes (replicate m 0)
zeros zero = tt
zeros (suc m) = (omega arith, zeros m)

touched_small : (touched : List (ℕ × List ℕ)) (lba : ℕ) (otherwise : List ℕ) → AllByRecursion IsByteBlock touched
    → AreBytes otherwise → AreBytes (touched_block touched lba otherwise)
touched_small [] lba otherwise a b = b
touched_small (entry ∷ touched) lba otherwise a b = go (entry.0 == lba) (touched_small touched lba otherwise a.1 b)
  where
    go : (q : Bool) → AreBytes (touched_block touched lba otherwise)
        → AreBytes (if q then entry.1 else touched_block touched lba otherwise)
    go true e = a.0
    go false e = e

bytes_small : (c : Contents) (lba m : ℕ) → HoldsBytes c → AreBytes (bytes_at c lba m)
bytes_small c lba zero h = tt
bytes_small c lba (suc m) h = small_append (block_at c lba) (bytes_at c (lba + 1) m)
    (touched_small c.touched lba (zero_block c.size) h.touched (zeros c.size)) (bytes_small c (lba + 1) m h)

with_small : (touched : List (ℕ × List ℕ)) (lba : ℕ) (block : List ℕ) → AllByRecursion IsByteBlock touched
    → AreBytes block → AllByRecursion IsByteBlock (touched_with touched lba block)
with_small [] lba block a b = (b, tt)
with_small (entry ∷ touched) lba block a b =
    go (entry.0 == lba) (nat_lt lba entry.0) (with_small touched lba block a.1 b)
  where
    go : (q r : Bool) → AllByRecursion IsByteBlock (touched_with touched lba block)
        → AllByRecursion IsByteBlock (if q then (lba, block) ∷ touched
        else if r then (lba, block) ∷ (entry ∷ touched) else entry ∷ touched_with touched lba block)
    go true r e = (b, a.1)
    go false true e = (b, a)
    go false false e = (a.0, e)

pub block_small : (c : Contents) (lba : ℕ) (block : List ℕ) → HoldsBytes c → AreBytes block
    → HoldsBytes (with_block c lba block)
block_small c lba block h b = record { touched = with_small c.touched lba block h.touched b; reel = h.reel }

written_small : (c : Contents) (lba m : ℕ) (bytes : List ℕ) → HoldsBytes c → AreBytes bytes
    → HoldsBytes (with_bytes c lba m bytes)
written_small c lba zero bytes h b = h
written_small c lba (suc m) bytes h b = written_small (with_block c lba (take c.size bytes)) (lba + 1) m
    (drop c.size bytes) (block_small c lba (take c.size bytes) h (small_take c.size bytes b))
    (small_drop c.size bytes b)

-- ---- replies

pub record HasByteReply (r : Reply) : Type 0 where
  pub status : r.status < 256
  pub bytes : AreBytes r.bytes
  pub sense : FitsSense r.sense

-- A sense of this key and code, as a disk gives.
pub code_fits : (key asc : ℕ) → key < 16 → asc < 256 → FitsSense (sense_of key asc 0x00)
code_fits key asc h k = plain_fits key asc 0x00 h k (omega arith)

nothing_fits : FitsSense (sense_of 0x00 0x00 0x00)
nothing_fits = code_fits 0x00 0x00 (omega arith) (omega arith)

pub good_small : (bytes : List ℕ) → AreBytes bytes → HasByteReply (good bytes)
good_small bytes a = record { status = omega arith; bytes = a; sense = nothing_fits }

pub check_small : (x : Sense) → FitsSense x → HasByteReply (check_condition x)
check_small x h = record { status = omega arith; bytes = tt; sense = h }

tested : (xs : List ℕ) → list_all (λ (b : ℕ). nat_lt b 256) xs ≡ true → AreBytes xs
tested [] e = tt
tested (x ∷ xs) e = go (nat_lt x 256) refl e (λ z. tested xs z)
  where
    lt_is : (a : ℕ) → nat_lt a 256 ≡ true → a < 256
    lt_is a z = grind (arith, nat_tests)

    go : (q : Bool) → nat_lt x 256 ≡ q → (q && list_all (λ (b : ℕ). nat_lt b 256) xs) ≡ true
        → (list_all (λ (b : ℕ). nat_lt b 256) xs ≡ true → AreBytes xs) → AreBytes (x ∷ xs)
    go true f z more = (lt_is x f, more z)
    go false f z more = absurd cc

inquiry_small : (q : Bool) → AreBytes (inquiry_data q)
inquiry_small true = tested (inquiry_data true) refl
inquiry_small false = tested (inquiry_data false) refl

capacity_small : (last size : ℕ) → AreBytes (capacity_data last size)
capacity_small last size = (
  omega arith,
  (omega arith, (omega arith, (omega arith, (omega arith, (omega arith, (omega arith, (omega arith, tt))))))),
)

-- ---- a command

pub record HasByteContext (m : CommandContext) : Type 0 where
  pub contents : HoldsBytes m.contents
  pub stored : (x : Sense) → m.stored ≡ Some x → FitsSense x
  pub attention : (x : Sense) → m.attention ≡ Some x → FitsSense x

pub record GivesBytes (e : Execution) : Type 0 where
  pub contents : HoldsBytes e.contents
  pub reply : HasByteReply e.reply

replies : (m : CommandContext) (r : Reply) → HasByteContext m → HasByteReply r → GivesBytes (reply_execution m r)
replies m r h a = record { contents = h.contents; reply = a }

writes : (m : CommandContext) (lba i : ℕ) (sent : List ℕ) → HasByteContext m → AreBytes sent
    → GivesBytes (write_execution m lba i sent)
writes m lba i sent h a =
    record { contents = written_small m.contents lba i sent h.contents a; reply = good_small [] tt }

returned : (q : Bool) (o : Option Sense) → ((x : Sense) → o ≡ Some x → FitsSense x) → FitsSense (returned_sense q o)
returned q (Some x) f = f x refl
returned true None f = nothing_fits
returned false None f = code_fits 0x05 0x25 (omega arith) (omega arith)

gives : (m : CommandContext) (c : Command) (sent : List ℕ) → HasByteContext m → AreBytes sent
    → GivesBytes (command_execution m c sent)
gives m Command.TestUnitReady sent h a = replies m (good []) h (good_small [] tt)
gives m (Command.RequestSense room) sent h a =
    let given = sense_data (returned_sense m.present m.stored) in
    let n = min room SENSE_LEN in
    replies m (good (take n given)) h (good_small (take n given)
    (small_take n given (data_are_bytes (returned_sense m.present m.stored) (returned m.present m.stored h.stored))))
gives m (Command.Read6 lba count) sent h a =
    let n = blocks_moved (Command.Read6 lba count) in
    replies m (good (bytes_at m.contents lba n)) h
    (good_small (bytes_at m.contents lba n) (bytes_small m.contents lba n h.contents))
gives m (Command.Write6 lba count) sent h a = writes m lba (blocks_moved (Command.Write6 lba count)) sent h a
gives m (Command.Inquiry room) sent h a =
    let given = inquiry_data m.present in
    let n = min room INQUIRY_LEN in
    replies m (good (take n given)) h (good_small (take n given) (small_take n given (inquiry_small m.present)))
gives m Command.ReadCapacity sent h a =
    let given = capacity_data (m.contents.count - 1) m.contents.size in
    replies m (good given) h (good_small given (capacity_small (m.contents.count - 1) m.contents.size))
gives m (Command.Read10 lba count) sent h a = replies m (good (bytes_at m.contents lba count)) h
    (good_small (bytes_at m.contents lba count) (bytes_small m.contents lba count h.contents))
gives m (Command.Write10 lba count) sent h a = writes m lba count sent h a

checks : (m : CommandContext) (x : Sense) → HasByteContext m → FitsSense x
    → GivesBytes (reply_execution m (check_condition x))
checks m x h a = replies m (check_condition x) h (check_small x a)

-- ---- at a tape

known_small : (n : ℕ) → (n ≡ GOOD) ⊎ (n ≡ CHECK_CONDITION) → n < 256
known_small n (inl e) = omega (arith, e)
known_small n (inr e) = omega (arith, e)

on_tape_small : (m : CommandContext) (r : Reel) (c : TapeCommand) (cdb sent : List ℕ) → m.contents.reel ≡ Some r
    → tape_command_of cdb ≡ Ok c → HasByteContext m → AreBytes cdb → AreBytes sent → GivesBytes (on_tape m r c sent)
on_tape_small m r c cdb sent d is h b a =
    let given = tape_bytes m r c sent (subst IsByteReel d h.contents.reel) (returned m.present m.stored h.stored) a in
    record {
      contents = record { touched = h.contents.touched; reel = given.objects };
      reply = record {
        status = known_small (on_tape m r c sent).reply.status
            (tape_known (tape_in m.contents r) (returned_sense m.present m.stored) c sent);
        bytes = given.bytes;
        sense = tape_fits m r c cdb sent b is;
      };
    }

-- ---- any command

pub gives_bytes : (m : CommandContext) (cdb sent : List ℕ) → HasByteContext m → AreBytes cdb → AreBytes sent
    → GivesBytes (execution m cdb sent)
gives_bytes m cdb sent h b a = of_all m cdb sent GivesBytes (record {
  refused_is = λ sense k. checks m sense h (refused_small sense k);
  reported_is = λ sense e. record { contents = h.contents; reply = check_small sense (h.attention sense e) };
  disk_is = λ c d is g. gives m c sent h a;
  tape_is = λ r c d is. on_tape_small m r c cdb sent d is h b a;
})
  where
    of_fault : (fault : CdbFault) → FitsSense (sense_of_fault fault)
    of_fault CdbFault.Opcode = code_fits 0x05 0x20 (omega arith) (omega arith)
    of_fault CdbFault.Length = code_fits 0x05 0x24 (omega arith) (omega arith)
    of_fault CdbFault.Field = code_fits 0x05 0x24 (omega arith) (omega arith)

    refused_small : (sense : Sense) → IsRefused m cdb sense → FitsSense sense
    refused_small _ (absent e) = code_fits 0x05 0x25 (omega arith) (omega arith)
    refused_small _ (faulty fault d p e) = of_fault fault
    refused_small _ (outside c d p e g) = code_fits 0x05 0x21 (omega arith) (omega arith)
    refused_small _ (faulty_at_tape r fault d p e) = of_fault fault
