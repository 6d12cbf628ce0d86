-- What is kept of a tape, as its parts change.
use Rattle.std.proofs.Common.{ℕ, ◌≡◌, ◌+◌, ◌-◌, ◌*◌, ◌<◌, ◌≤◌, List, ◌++◌, ◌∙◌, sym, ap, subst, arith}
use Rattle.std.proofs.Common.{length, take, drop, min}
use Rattle.std.specs.Prelude.{◌/◌}
use Rattle.std.proofs.lemmas.List.{length-append, length-take-le, length-drop}
use Rattle.std.proofs.Math.Nat.{add-mul, mul-le-mul_right, mul-div_cancel}
use Rattle.tape_unit.specs.declared.stored.StoredObject.{StoredObject}
use Rattle.array_model.specs.Reels.{Object, bytes_from}
use Rattle.tape_unit.specs.Stored.{Store, IsStored, AreCounted, blocks_in, block_entries, filemark_entries, objects_of}
use Rattle.tape_unit.proofs.StoredObjects.{blocks_few, blocks_append, blocks_split, entry_blocks, entry_filemarks}
use Rattle.tape_unit.proofs.StoredObjects.{length_block_entries}
use Rattle.tape_unit.proofs.StoredObjects.{length_filemark_entries, counted_take, counted_append, counted_blocks}
use Rattle.tape_unit.proofs.StoredObjects.{counted_filemarks}
use Rattle.tape_unit.proofs.StoredObjects.{length_objects, bytes_past, before_most}

abbrev pub store_of : ℕ → ℕ → ℕ → ℕ → List Object → Store
store_of capacity size position spare objects = record {
  tape = record { capacity = capacity; size = size; reel = record { objects = objects; position = position } };
  spare = spare;
}

pub same_store : (capacity size position spare : ℕ) {before after : List Object} → before ≡ after
    → store_of capacity size position spare before ≡ store_of capacity size position spare after
same_store capacity size position spare e = λ i. store_of capacity size position spare (e i)

-- ---- as it is seen

-- What a tape is, by how it is kept.
abbrev pub IsSeen : ℕ → ℕ → ℕ → ℕ → List StoredObject → List ℕ → Store → Type 0
IsSeen capacity size spare position stored bytes v =
    store_of capacity size position spare (objects_of size stored bytes) ≡ v

pub kept_length :
    {capacity size spare position : ℕ} {stored : List StoredObject} {bytes : List ℕ} {room byte_room : ℕ} {v : Store}
    → IsStored capacity size spare position stored bytes room byte_room
    → IsSeen capacity size spare position stored bytes v → length v.tape.reel.objects ≡ length stored
kept_length {capacity} {size} {spare} {position} {stored} {bytes} k e =
    let f : Store → ℕ = λ s. length s.tape.reel.objects in sym (ap f e) ∙ length_objects size stored bytes

pub stands_there :
    {capacity size spare position : ℕ} {stored : List StoredObject} {bytes : List ℕ} {room byte_room : ℕ} {v : Store}
    → IsStored capacity size spare position stored bytes room byte_room
    → IsSeen capacity size spare position stored bytes v → (n : ℕ) → n < length v.tape.reel.objects → n < length stored
stands_there k e n l = omega (arith, kept_length k e, l)

pub has_room :
    {capacity size spare position : ℕ} {stored : List StoredObject} {bytes : List ℕ} {room byte_room : ℕ} {v : Store}
    → IsStored capacity size spare position stored bytes room byte_room
    → IsSeen capacity size spare position stored bytes v → (n : ℕ) → length v.tape.reel.objects + n ≤ v.tape.capacity
    → length stored + n ≤ capacity
has_room {capacity} {v = v} k e n l =
    let f : Store → ℕ = λ s. s.tape.capacity in
    let same : capacity ≡ v.tape.capacity = ap f e in
    omega (arith, kept_length k e, same, l)

pub of_size :
    {capacity size spare position : ℕ} {stored : List StoredObject} {bytes : List ℕ} {room byte_room : ℕ} {v : Store}
    → IsStored capacity size spare position stored bytes room byte_room
    → IsSeen capacity size spare position stored bytes v → (n all : ℕ) → all ≡ n * v.tape.size → all ≡ n * size
of_size k e n all h = let f : Store → ℕ = λ s. n * s.tape.size in h ∙ sym (ap f e)

pub is_spare :
    {capacity size spare position : ℕ} {stored : List StoredObject} {bytes : List ℕ} {room byte_room : ℕ} {v : Store}
    → IsStored capacity size spare position stored bytes room byte_room
    → IsSeen capacity size spare position stored bytes v → (n : ℕ) → n ≤ v.spare → n ≤ spare
is_spare {spare = spare} {v = v} k e n l =
    let f : Store → ℕ = λ s. s.spare in let same : spare ≡ v.spare = ap f e in omega (arith, same, l)

-- ---- the bytes ahead

pub ahead :
    {capacity size spare position : ℕ} {stored : List StoredObject} {bytes : List ℕ} {room byte_room : ℕ} {v : Store}
    → IsStored capacity size spare position stored bytes room byte_room
    → IsSeen capacity size spare position stored bytes v → (first : ℕ) (objects : List StoredObject) → objects ≡ stored
    → first ≡ blocks_in (take position objects) * size → bytes_from v.tape.reel ≡ drop first bytes
ahead {capacity} {size} {spare} {position} {stored} {bytes} k e first objects h l =
    let f : Store → List ℕ = λ s. bytes_from s.tape.reel in
    let here : first ≡ blocks_in (take position stored) * size = l ∙ (λ i. blocks_in (take position (h i)) * size) in
    sym (ap f e) ∙ bytes_past size position stored bytes k.whole ∙ (λ i. drop (sym here i) bytes)

pub ahead_within :
    {capacity size spare position : ℕ} {stored : List StoredObject} {bytes : List ℕ} {room byte_room : ℕ} {v : Store}
    → IsStored capacity size spare position stored bytes room byte_room
    → IsSeen capacity size spare position stored bytes v → (first : ℕ) (objects : List StoredObject) → objects ≡ stored
    → first ≡ blocks_in (take position objects) * size → (at n : ℕ) → at + n ≤ length (bytes_from v.tape.reel)
    → first + at + n ≤ length bytes
ahead_within {capacity} {size} {spare} {position} {stored} {bytes} {v = v} k e first objects h l at n m =
    let here : first ≡ blocks_in (take position stored) * size = l ∙ (λ i. blocks_in (take position (h i)) * size) in
    let low : blocks_in (take position stored) * size ≤ length bytes
    = before_most stored position size (length bytes) k.whole in
    let left : length (bytes_from v.tape.reel) ≡ length bytes - first
    = ap length (ahead k e first objects h l) ∙ length-drop first bytes in
    omega (arith, low, left, here, m)

-- ---- how many blocks there are

pub count_is : {capacity size spare position : ℕ} {stored : List StoredObject} {bytes : List ℕ} {room byte_room : ℕ}
    → IsStored capacity size spare position stored bytes room byte_room → (all : ℕ) → all ≡ length bytes
    → all / size ≡ blocks_in stored
count_is {size = size} {stored = stored} k all e =
    (λ i. (e ∙ k.whole) i / size) ∙ mul-div_cancel (blocks_in stored) k.some_size

pub blocks_most : {capacity size spare position : ℕ} {stored : List StoredObject} {bytes : List ℕ} {room byte_room : ℕ}
    → IsStored capacity size spare position stored bytes room byte_room → blocks_in stored ≤ 65536
blocks_most {stored = stored} k =
    omega (arith, blocks_few stored, k.fits, k.most)

-- ---- the position

pub moved : {capacity size spare position : ℕ} {stored : List StoredObject} {bytes : List ℕ} {room byte_room : ℕ}
    → IsStored capacity size spare position stored bytes room byte_room → (p : ℕ) → p ≤ length stored
    → IsStored capacity size spare p stored bytes room byte_room
moved k p h = record {
  most = k.most;
  some_size = k.some_size;
  most_size = k.most_size;
  within = h;
  fits = k.fits;
  counted = k.counted;
  whole = k.whole;
  objects_fit = k.objects_fit;
  bytes_fit = k.bytes_fit;
}

-- ---- the room for bytes

more_room : (n m spare capacity size room : ℕ) → n ≤ m → min (m + spare) capacity * size ≤ room
    → min (n + spare) capacity * size ≤ room
more_room n m spare capacity size room l h =
    let low : min (n + spare) capacity ≤ min (m + spare) capacity = grind arith in
    omega (arith, mul-le-mul_right size low, h)

pub bytes_have_room :
    {capacity size spare position : ℕ} {stored : List StoredObject} {bytes : List ℕ} {room byte_room : ℕ}
    → IsStored capacity size spare position stored bytes room byte_room → (n : ℕ) (sent : List ℕ)
    → length sent ≡ n * size → length stored + n ≤ capacity → n ≤ spare → length bytes + length sent ≤ byte_room
bytes_have_room {capacity} {size} {spare} {position} {stored} {bytes} {room} {byte_room} k n sent e h l =
    let m : ℕ = blocks_in stored in
    let few : m ≤ length stored = blocks_few stored in
    let low : m + n ≤ min (m + spare) capacity = grind arith in
    let both : (m + n) * size ≡ m * size + n * size = add-mul m n size in
    omega (arith, mul-le-mul_right size low, k.bytes_fit, k.whole)

-- ---- cut

pub cut_off : {capacity size spare position : ℕ} {stored : List StoredObject} {bytes : List ℕ} {room byte_room : ℕ}
    → IsStored capacity size spare position stored bytes room byte_room
    → IsStored capacity size spare position (take position stored)
    (take (blocks_in (take position stored) * size) bytes) room byte_room
cut_off {capacity} {size} {spare} {position} {stored} {bytes} {room} {byte_room} k =
    let n : ℕ = blocks_in (take position stored) in
    let long : length (take position stored) ≡ position = length-take-le position stored k.within in
    let parts : n + blocks_in (drop position stored) ≡ blocks_in stored = blocks_split position stored in
    let low : n * size ≤ blocks_in stored * size = mul-le-mul_right size (omega arith) in
    record {
      most = k.most;
      some_size = k.some_size;
      most_size = k.most_size;
      within = omega (arith, long);
      fits = omega (arith, long, k.within, k.fits);
      counted = counted_take 0 position stored k.counted;
      whole = length-take-le (n * size) bytes (omega (arith, low, k.whole));
      objects_fit = k.objects_fit;
      bytes_fit = more_room n (blocks_in stored) spare capacity size byte_room (omega (arith, parts)) k.bytes_fit;
    }

-- ---- more

pub with_blocks : {capacity size spare position : ℕ} {stored : List StoredObject} {bytes : List ℕ} {room byte_room : ℕ}
    → IsStored capacity size spare position stored bytes room byte_room → (before n : ℕ) (sent : List ℕ)
    → before ≡ blocks_in stored → length sent ≡ n * size → length stored + n ≤ capacity
    → n ≤ spare → (more_room more_bytes : ℕ) → room ≤ more_room → byte_room ≤ more_bytes
    → IsStored capacity size (spare - n) position (stored ++ block_entries before n)
    (bytes ++ sent) more_room more_bytes
with_blocks {capacity} {size} {spare} {position} {stored} {bytes} {room}
    {byte_room} k before n sent b e h l r br rl brl =
    let m : ℕ = blocks_in stored in
    let long : length (stored ++ block_entries before n) ≡ length stored + length (block_entries before n) =
    length-append stored (block_entries before n) in
    let entries : length (block_entries before n) ≡ n = length_block_entries before n in
    let all : blocks_in (stored ++ block_entries before n) ≡ m + blocks_in (block_entries before n) = blocks_append
    stored (block_entries before n) in
    let some : blocks_in (block_entries before n) ≡ n = entry_blocks before n in
    let count : blocks_in (stored ++ block_entries before n) ≡ m + n = omega arith in
    let bytes_long : length (bytes ++ sent) ≡ length bytes + length sent = length-append bytes sent in
    let both : (m + n) * size ≡ m * size + n * size = add-mul m n size in
    let sums : m + n + (spare - n) ≡ m + spare = omega arith in
    let start : before ≡ 0 + blocks_in stored = omega arith in
    record {
      most = k.most;
      some_size = k.some_size;
      most_size = k.most_size;
      within = omega (arith, long, entries, k.within);
      fits = omega (arith, long, entries, h);
      counted = counted_append 0 stored (block_entries before n) k.counted
          (subst (λ x. AreCounted x (block_entries before n)) start (counted_blocks before n));
      whole = rw count (omega (arith, bytes_long, both, k.whole, e));
      objects_fit = omega (arith, k.objects_fit, rl);
      bytes_fit = rw (count, sums) (omega (arith, k.bytes_fit, brl));
    }

pub with_filemarks :
    {capacity size spare position : ℕ} {stored : List StoredObject} {bytes : List ℕ} {room byte_room : ℕ}
    → IsStored capacity size spare position stored bytes room byte_room
    → (before n : ℕ) → before ≡ blocks_in stored → length stored + n ≤ capacity → (more_room : ℕ) → room ≤ more_room
    → IsStored capacity size spare position (stored ++ filemark_entries before n) bytes more_room byte_room
with_filemarks {capacity} {size} {spare} {position} {stored} {bytes} {room} {byte_room} k before n b h r rl =
    let m : ℕ = blocks_in stored in
    let long : length (stored ++ filemark_entries before n) ≡ length stored + length (filemark_entries before n)
    = length-append stored (filemark_entries before n) in
    let entries : length (filemark_entries before n) ≡ n = length_filemark_entries before n in
    let all : blocks_in (stored ++ filemark_entries before n) ≡ m + blocks_in (filemark_entries before n)
    = blocks_append stored (filemark_entries before n) in
    let none : blocks_in (filemark_entries before n) ≡ 0 = entry_filemarks before n in
    let count : blocks_in (stored ++ filemark_entries before n) ≡ m = omega arith in
    let start : before ≡ 0 + blocks_in stored = omega arith in
    record {
      most = k.most;
      some_size = k.some_size;
      most_size = k.most_size;
      within = omega (arith, long, entries, k.within);
      fits = omega (arith, long, entries, h);
      counted = counted_append 0 stored (filemark_entries before n) k.counted
          (subst (λ x. AreCounted x (filemark_entries before n)) start (counted_filemarks before n));
      whole = rw count k.whole;
      objects_fit = omega (arith, k.objects_fit, rl);
      bytes_fit = rw count k.bytes_fit;
    }
