-- The objects of a tape as they are kept: parts of them, and more of them.
use Rattle.std.proofs.Common.{ℕ, zero, suc, ◌≡◌, ◌+◌, ◌-◌, ◌*◌, ◌<◌, ◌≤◌, Bool, true, false, List, [], ◌∷◌, ◌++◌, ◌∙◌}
use Rattle.std.proofs.Common.{refl, sym, ap, arith}
use Rattle.std.proofs.Common.{length, take, drop, get_or, reverse, append_assoc, inl, inr, Some, None, subst}
use Rattle.std.proofs.lemmas.Bool.{cases_Bool}
use Rattle.std.proofs.lemmas.List.{take-take, drop-take, drop-drop, take_at, drop_at, take_all, length-drop}
use Rattle.std.proofs.lemmas.List.{length-take-le}
use Rattle.std.proofs.lemmas.List.{take-append-drop}
use Rattle.std.proofs.Math.Nat.{suc-mul, add-mul, mul-le-mul_right}
use Rattle.std.specs.Prelude.{if◌then◌else◌}
use Rattle.tape_unit.specs.declared.stored.StoredObject.{StoredObject}
use Rattle.array_model.specs.Reels.{Object, block, filemark, filemarks_in, way, blocks_of, filemarks, block_at}
use Rattle.array_model.specs.Reels.{bytes_of}
use Rattle.array_model.specs.Reels.{AreWhole}
use Rattle.tape_unit.specs.Stored.{marks_in, seen, blocks_in, objects_of, AreCounted, block_entries, filemark_entries}

-- ---- filemarks, and how many there are

pub length_objects : (size : ℕ) (stored : List StoredObject) (bytes : List ℕ)
    → length (objects_of size stored bytes) ≡ length stored
length_objects size [] bytes = refl
length_objects size (o ∷ stored) bytes =
    elim (cases_Bool o.is_filemark) [
      | inl e ↦ rw e (ap suc (length_objects size stored bytes))
      | inr e ↦ rw e (ap suc (length_objects size stored (drop size bytes)))
    ]

pub filemarks_kept : (size : ℕ) (stored : List StoredObject) (bytes : List ℕ)
    → filemarks_in (objects_of size stored bytes) ≡ marks_in stored
filemarks_kept size [] bytes = refl
filemarks_kept size (o ∷ stored) bytes =
    elim (cases_Bool o.is_filemark) [
      | inl e ↦ rw e (ap (λ (l : List Bool). true ∷ l) (filemarks_kept size stored bytes))
      | inr e ↦ rw e (ap (λ (l : List Bool). false ∷ l) (filemarks_kept size stored (drop size bytes)))
    ]

pub marks_take : (p : ℕ) (stored : List StoredObject) → marks_in (take p stored) ≡ take p (marks_in stored)
marks_take zero stored = refl
marks_take (suc p) [] = refl
marks_take (suc p) (o ∷ stored) = ap (λ (l : List Bool). o.is_filemark ∷ l) (marks_take p stored)

pub marks_drop : (p : ℕ) (stored : List StoredObject) → marks_in (drop p stored) ≡ drop p (marks_in stored)
marks_drop zero stored = refl
marks_drop (suc p) [] = refl
marks_drop (suc p) (o ∷ stored) = marks_drop p stored

pub seen_ahead : (size p : ℕ) (stored : List StoredObject) (bytes : List ℕ)
    → seen true (drop p stored) ≡ way (filemarks_in (objects_of size stored bytes)) p true
seen_ahead size p stored bytes = marks_drop p stored ∙ (λ i. drop p (sym (filemarks_kept size stored bytes) i))

pub seen_behind : (size p : ℕ) (stored : List StoredObject) (bytes : List ℕ)
    → seen false (take p stored) ≡ way (filemarks_in (objects_of size stored bytes)) p false
seen_behind size p stored bytes =
    (λ i. reverse (marks_take p stored i)) ∙ (λ i. reverse (take p (sym (filemarks_kept size stored bytes) i)))

-- ---- how many blocks

pub blocks_few : (stored : List StoredObject) → blocks_in stored ≤ length stored
blocks_few [] = omega arith
blocks_few (o ∷ stored) =
    let h : blocks_in stored ≤ length stored = blocks_few stored in
    elim (cases_Bool o.is_filemark) [ inl e ↦ rw e (omega arith) | inr e ↦ rw e (omega arith) ]

pub blocks_append : (xs ys : List StoredObject) → blocks_in (xs ++ ys) ≡ blocks_in xs + blocks_in ys
blocks_append [] ys = omega arith
blocks_append (o ∷ xs) ys =
    let h : blocks_in (xs ++ ys) ≡ blocks_in xs + blocks_in ys = blocks_append xs ys in
    elim (cases_Bool o.is_filemark) [ inl e ↦ rw e (omega arith) | inr e ↦ rw e (omega arith) ]

pub blocks_split : (p : ℕ) (stored : List StoredObject)
    → blocks_in (take p stored) + blocks_in (drop p stored) ≡ blocks_in stored
blocks_split p stored =
    sym (blocks_append (take p stored) (drop p stored)) ∙ ap blocks_in (take-append-drop p stored)

-- A block that stands there comes with those before it.
pub blocks_below : (n : ℕ) (stored : List StoredObject) (d : StoredObject) → n < length stored
    → (get_or stored n d).is_filemark ≡ false → suc (blocks_in (take n stored)) ≤ blocks_in stored
blocks_below n [] d l f = absurd (omega (arith, l))
blocks_below zero (o ∷ stored) d l f = rw f (omega arith)
blocks_below (suc n) (o ∷ stored) d l f =
    let h : suc (blocks_in (take n stored)) ≤ blocks_in stored = blocks_below n stored d (omega (arith, l)) f in
    elim (cases_Bool o.is_filemark) [ inl e ↦ rw e (omega arith) | inr e ↦ rw e (omega arith) ]

pub entry_blocks : (before n : ℕ) → blocks_in (block_entries before n) ≡ n
entry_blocks before zero = refl
entry_blocks before (suc n) = ap suc (entry_blocks (suc before) n)

pub entry_filemarks : (before n : ℕ) → blocks_in (filemark_entries before n) ≡ 0
entry_filemarks before zero = refl
entry_filemarks before (suc n) = entry_filemarks before n

pub length_block_entries : (before n : ℕ) → length (block_entries before n) ≡ n
length_block_entries before zero = refl
length_block_entries before (suc n) = ap suc (length_block_entries (suc before) n)

pub length_filemark_entries : (before n : ℕ) → length (filemark_entries before n) ≡ n
length_filemark_entries before zero = refl
length_filemark_entries before (suc n) = ap suc (length_filemark_entries before n)

-- One more, and one fewer to come.
pub one_block_more : (xs : List StoredObject) (before i n : ℕ) → i < n
    → (xs ++ record { is_filemark = false; before = before + i } ∷ []) ++ block_entries (before + (i + 1)) (n - (i + 1))
    ≡ xs ++ block_entries (before + i) (n - i)
one_block_more xs before i n l =
    let m : ℕ = n - (i + 1) in
    let left : n - i ≡ suc m = omega arith in
    let next : before + (i + 1) ≡ suc (before + i) = omega arith in
    append_assoc xs (record { is_filemark = false; before = before + i } ∷ []) (block_entries (before + (i + 1)) m)
    ∙ (λ j. xs ++ record { is_filemark = false; before = before + i } ∷ block_entries (next j) m)
    ∙ (λ j. xs ++ block_entries (before + i) (sym left j))

pub one_filemark_more : (xs : List StoredObject) (before i n : ℕ) → i < n
    → (xs ++ record { is_filemark = true; before = before } ∷ []) ++ filemark_entries before (n - (i + 1))
    ≡ xs ++ filemark_entries before (n - i)
one_filemark_more xs before i n l =
    let m : ℕ = n - (i + 1) in
    let left : n - i ≡ suc m = omega arith in
    append_assoc xs (record { is_filemark = true; before = before } ∷ []) (filemark_entries before m)
    ∙ (λ j. xs ++ filemark_entries before (sym left j))

-- ---- each has the number of blocks before it

at_test : (b : ℕ) (stored : List StoredObject) {q r : Bool} → q ≡ r → AreCounted (if q then b else suc b) stored
    → AreCounted (if r then b else suc b) stored
at_test b stored e h = subst (λ t. AreCounted (if t then b else suc b) stored) e h

past_test : (b n : ℕ) (stored : List StoredObject) {q r : Bool} → q ≡ r
    → AreCounted (b + (if q then n else suc n)) stored → AreCounted (b + (if r then n else suc n)) stored
past_test b n stored e h = subst (λ t. AreCounted (b + (if t then n else suc n)) stored) e h

pub counted_at : (b n : ℕ) (stored : List StoredObject) (d : StoredObject) → AreCounted b stored → n < length stored
    → (get_or stored n d).before ≡ b + blocks_in (take n stored)
counted_at b n [] d c l = absurd (omega (arith, l))
counted_at b zero (o ∷ stored) d c l = omega (arith, c.0)
counted_at b (suc n) (o ∷ stored) d c l =
    elim (cases_Bool o.is_filemark) [
      | inl e ↦ (let k : AreCounted b stored = at_test b stored e c.1 in
          rw e (counted_at b n stored d k (omega (arith, l))))
      | inr e ↦ (let k : AreCounted (suc b) stored = at_test b stored e c.1 in
          let h : (get_or stored n d).before ≡ suc b + blocks_in (take n stored)
          = counted_at (suc b) n stored d k (omega (arith, l)) in
          rw e (omega (arith, h)))
    ]

pub counted_take : (b p : ℕ) (stored : List StoredObject) → AreCounted b stored → AreCounted b (take p stored)
counted_take b zero stored c = tt
counted_take b (suc p) [] c = tt
counted_take b (suc p) (o ∷ stored) c = (c.0, counted_take _ p stored c.1)

pub counted_append : (b : ℕ) (xs ys : List StoredObject) → AreCounted b xs → AreCounted (b + blocks_in xs) ys
    → AreCounted b (xs ++ ys)
counted_append b [] ys c d = let e : b + 0 ≡ b = omega arith in subst (λ m. AreCounted m ys) e d
counted_append b (o ∷ xs) ys c d =
    elim (cases_Bool o.is_filemark) [
      | inl e ↦ (let k : AreCounted b xs = at_test b xs e c.1 in
          let j : AreCounted (b + blocks_in xs) ys = past_test b (blocks_in xs) ys e d in
          (c.0, rw e (counted_append b xs ys k j)))
      | inr e ↦ (let k : AreCounted (suc b) xs = at_test b xs e c.1 in
          let j : AreCounted (b + suc (blocks_in xs)) ys = past_test b (blocks_in xs) ys e d in
          let same : b + suc (blocks_in xs) ≡ suc b + blocks_in xs = omega arith in
          let i : AreCounted (suc b + blocks_in xs) ys = subst (λ m. AreCounted m ys) same j in
          (c.0, rw e (counted_append (suc b) xs ys k i)))
    ]

pub counted_blocks : (b n : ℕ) → AreCounted b (block_entries b n)
counted_blocks b zero = tt
counted_blocks b (suc n) = (refl, counted_blocks (suc b) n)

pub counted_filemarks : (b n : ℕ) → AreCounted b (filemark_entries b n)
counted_filemarks b zero = tt
counted_filemarks b (suc n) = (refl, counted_filemarks b n)

-- ---- parts

one_size_more : (size n : ℕ) → size + n * size ≡ suc n * size
one_size_more size n = let more : suc n * size ≡ n * size + size = suc-mul n size in omega arith

size_test : (size n m : ℕ) {q r : Bool} → q ≡ r → m ≡ (if q then n else suc n) * size
    → m ≡ (if r then n else suc n) * size
size_test size n m e h = subst (λ t. m ≡ (if t then n else suc n) * size) e h

most_test : (size n m : ℕ) {q r : Bool} → q ≡ r → (if q then n else suc n) * size ≤ m
    → (if r then n else suc n) * size ≤ m
most_test size n m e h = subst (λ t. (if t then n else suc n) * size ≤ m) e h

pub take_objects : (size p : ℕ) (stored : List StoredObject) (bytes : List ℕ)
    → take p (objects_of size stored bytes) ≡ objects_of size (take p stored) bytes
take_objects size zero stored bytes = refl
take_objects size (suc p) [] bytes = refl
take_objects size (suc p) (o ∷ stored) bytes =
    elim (cases_Bool o.is_filemark) [
      | inl e ↦ rw e (ap (λ (l : List Object). filemark ∷ l) (take_objects size p stored bytes))
      | inr e ↦
          rw e (ap (λ (l : List Object). block (take size bytes) ∷ l) (take_objects size p stored (drop size bytes)))
    ]

-- Of the bytes those of its blocks alone count.
pub first_bytes : (size n : ℕ) (stored : List StoredObject) (bytes : List ℕ) → blocks_in stored * size ≤ n
    → objects_of size stored (take n bytes) ≡ objects_of size stored bytes
first_bytes size n [] bytes l = refl
first_bytes size n (o ∷ stored) bytes l =
    elim (cases_Bool o.is_filemark) [
      | inl e ↦ (let k : blocks_in stored * size ≤ n = most_test size (blocks_in stored) n e l in
          rw e (ap (λ (m : List Object). filemark ∷ m) (first_bytes size n stored bytes k)))
      | inr e ↦ (let k : suc (blocks_in stored) * size ≤ n = most_test size (blocks_in stored) n e l in
          let more : size + blocks_in stored * size ≡ suc (blocks_in stored) * size = one_size_more size
          (blocks_in stored) in let all : n ≡ size + (n - size) = omega arith in
          let left : drop size (take n bytes) ≡ take (n - size) (drop size bytes) =
          (λ i. drop size (take (all i) bytes)) ∙ drop-take size (n - size) bytes in
          rw e ((λ i. block (take-take size n bytes (omega arith) i) ∷ objects_of size stored (left i))
          ∙ ap (λ (l : List Object). block (take size bytes) ∷ l)
          (first_bytes size (n - size) stored (drop size bytes) (omega arith))))
    ]

pub drop_objects : (size p : ℕ) (stored : List StoredObject) (bytes : List ℕ) → drop p (objects_of size stored bytes)
    ≡ objects_of size (drop p stored) (drop (blocks_in (take p stored) * size) bytes)
drop_objects size zero stored bytes =
    let e : 0 * size ≡ 0 = omega arith in
    λ i. objects_of size stored (drop (sym e i) bytes)
drop_objects size (suc p) [] bytes = refl
drop_objects size (suc p) (o ∷ stored) bytes =
    elim (cases_Bool o.is_filemark) [
      | inl e ↦ rw e (drop_objects size p stored bytes)
      | inr e ↦ rw e (drop_objects size p stored (drop size bytes)
          ∙ (λ i. objects_of size (drop p stored) (drop-drop (blocks_in (take p stored) * size) size bytes i))
          ∙ (λ i. objects_of size (drop p stored) (drop (one_size_more size (blocks_in (take p stored)) i) bytes)))
    ]

-- ---- more

pub append_objects : (size : ℕ) (xs ys : List StoredObject) (bytes : List ℕ) → objects_of size (xs ++ ys) bytes
    ≡ objects_of size xs bytes ++ objects_of size ys (drop (blocks_in xs * size) bytes)
append_objects size [] ys bytes = let e : 0 * size ≡ 0 = omega arith in λ i. objects_of size ys (drop (sym e i) bytes)
append_objects size (o ∷ xs) ys bytes =
    elim (cases_Bool o.is_filemark) [
      | inl e ↦ rw e (ap (λ (l : List Object). filemark ∷ l) (append_objects size xs ys bytes))
      | inr e ↦ rw e (ap (λ (l : List Object). block (take size bytes) ∷ l)
          (append_objects size xs ys (drop size bytes) ∙ (λ i. objects_of size xs (drop size bytes)
          ++ objects_of size ys (drop-drop (blocks_in xs * size) size bytes i))
          ∙ (λ i. objects_of size xs (drop size bytes)
          ++ objects_of size ys (drop (one_size_more size (blocks_in xs) i) bytes))))
    ]

pub entry_objects : (size before n : ℕ) (bytes : List ℕ)
    → objects_of size (block_entries before n) bytes ≡ blocks_of size n bytes
entry_objects size before zero bytes = refl
entry_objects size before (suc n) bytes =
    ap (λ (l : List Object). block (take size bytes) ∷ l) (entry_objects size (suc before) n (drop size bytes))

pub filemark_objects : (size before n : ℕ) (bytes : List ℕ)
    → objects_of size (filemark_entries before n) bytes ≡ filemarks n
filemark_objects size before zero bytes = refl
filemark_objects size before (suc n) bytes =
    ap (λ (l : List Object). filemark ∷ l) (filemark_objects size before n bytes)

pub with_more_blocks : (size before n : ℕ) (stored : List StoredObject) (bytes sent : List ℕ)
    → length bytes ≡ blocks_in stored * size
    → objects_of size (stored ++ block_entries before n) (bytes ++ sent)
    ≡ objects_of size stored bytes ++ blocks_of size n sent
with_more_blocks size before n stored bytes sent e =
    append_objects size stored (block_entries before n) (bytes ++ sent)
    ∙ (λ i. sym (first_bytes size (length bytes) stored (bytes ++ sent) (omega arith)) i
    ++ objects_of size (block_entries before n) (drop_at bytes sent (blocks_in stored * size) e i))
    ∙ (λ i. objects_of size stored (take_at bytes sent (length bytes) refl i) ++ entry_objects size before n sent i)

pub with_more_filemarks : (size before n : ℕ) (stored : List StoredObject) (bytes : List ℕ)
    → objects_of size (stored ++ filemark_entries before n) bytes ≡ objects_of size stored bytes ++ filemarks n
with_more_filemarks size before n stored bytes =
    append_objects size stored (filemark_entries before n) bytes
    ∙ (λ i. objects_of size stored bytes
    ++ filemark_objects size before n (drop (blocks_in stored * size) bytes) i)

-- ---- bytes

pub all_bytes : (size : ℕ) (stored : List StoredObject) (bytes : List ℕ) → length bytes ≡ blocks_in stored * size
    → bytes_of (objects_of size stored bytes) ≡ bytes
all_bytes size [] [] e = refl
all_bytes size [] (x ∷ bytes) e = absurd (omega (arith, e))
all_bytes size (o ∷ stored) bytes e =
    elim (cases_Bool o.is_filemark) [
      | inl f ↦
          (let k : length bytes ≡ blocks_in stored * size = size_test size (blocks_in stored) (length bytes) f e in
          rw f (all_bytes size stored bytes k))
      | inr f ↦ (let k : length bytes ≡ suc (blocks_in stored) * size = size_test size
          (blocks_in stored) (length bytes) f e in
          let more : suc (blocks_in stored) * size ≡ blocks_in stored * size + size = suc-mul (blocks_in stored) size in
          let rest : length (drop size bytes) ≡ length bytes - size = length-drop size bytes in
          rw f ((λ i. take size bytes ++ all_bytes size stored (drop size bytes) (omega arith) i)
          ∙ take-append-drop size bytes))
    ]

pub bytes_past : (size p : ℕ) (stored : List StoredObject) (bytes : List ℕ) → length bytes ≡ blocks_in stored * size
    → bytes_of (drop p (objects_of size stored bytes)) ≡ drop (blocks_in (take p stored) * size) bytes
bytes_past size p stored bytes e =
    let n : ℕ = blocks_in (take p stored) in
    let parts : n + blocks_in (drop p stored) ≡ blocks_in stored = blocks_split p stored in
    let rest : length (drop (n * size) bytes) ≡ length bytes - n * size = length-drop (n * size) bytes in
    let split : (n + blocks_in (drop p stored)) * size ≡ n * size + blocks_in (drop p stored) * size
    = add-mul n (blocks_in (drop p stored)) size in
    let whole : length bytes ≡ (n + blocks_in (drop p stored)) * size = rw parts e in
    ap bytes_of (drop_objects size p stored bytes)
    ∙ all_bytes size (drop p stored) (drop (n * size) bytes) (omega arith)

pub are_whole : (size : ℕ) (stored : List StoredObject) (bytes : List ℕ) → length bytes ≡ blocks_in stored * size
    → AreWhole size (objects_of size stored bytes)
are_whole size [] bytes e = tt
are_whole size (o ∷ stored) bytes e =
    elim (cases_Bool o.is_filemark) [
      | inl f ↦
          (let k : length bytes ≡ blocks_in stored * size = size_test size (blocks_in stored) (length bytes) f e in
          rw f (tt, are_whole size stored bytes k))
      | inr f ↦ (let k : length bytes ≡ suc (blocks_in stored) * size = size_test size
          (blocks_in stored) (length bytes) f e in
          let more : suc (blocks_in stored) * size ≡ blocks_in stored * size + size = suc-mul (blocks_in stored) size in
          let rest : length (drop size bytes) ≡ length bytes - size = length-drop size bytes in
          rw f (length-take-le size bytes (omega arith), are_whole size stored (drop size bytes) (omega arith)))
    ]

-- ---- where a place is among the bytes

pub before_in : (stored : List StoredObject) (place size all : ℕ) (d : StoredObject) → AreCounted 0 stored
    → place < length stored → all ≡ blocks_in stored * size
    → ((get_or stored place d).before * size ≡ blocks_in (take place stored) * size)
    × ((get_or stored place d).before * size ≤ all)
before_in stored place size all d c l e =
    let n : ℕ = blocks_in (take place stored) in
    let h : (get_or stored place d).before ≡ 0 + n = counted_at 0 place stored d c l in
    let same : (get_or stored place d).before ≡ n = omega arith in
    let parts : n + blocks_in (drop place stored) ≡ blocks_in stored = blocks_split place stored in
    let low : n * size ≤ blocks_in stored * size = mul-le-mul_right size (omega arith) in
    (ap (λ (k : ℕ). k * size) same, rw same (omega (arith, low, e)))

pub before_all : (stored : List StoredObject) (place size all : ℕ) → length stored ≤ place
    → all ≡ blocks_in stored * size → all ≡ blocks_in (take place stored) * size
before_all stored place size all l e = e ∙ (λ i. blocks_in (sym (take_all place stored l) i) * size)

-- ---- one object

pub filemark_there : (size n : ℕ) (stored : List StoredObject) (bytes : List ℕ) (d : StoredObject) → n < length stored
    → (get_or stored n d).is_filemark ≡ true → block_at (objects_of size stored bytes) n ≡ None
filemark_there size n [] bytes d l f = absurd (omega (arith, l))
filemark_there size zero (o ∷ stored) bytes d l f = rw f refl
filemark_there size (suc n) (o ∷ stored) bytes d l f =
    elim (cases_Bool o.is_filemark) [
      | inl e ↦ rw e (filemark_there size n stored bytes d (omega (arith, l)) f)
      | inr e ↦ rw e (filemark_there size n stored (drop size bytes) d (omega (arith, l)) f)
    ]

pub block_there : (size n : ℕ) (stored : List StoredObject) (bytes : List ℕ) (d : StoredObject) → n < length stored
    → (get_or stored n d).is_filemark ≡ false
    → block_at (objects_of size stored bytes) n ≡ Some (take size (drop (blocks_in (take n stored) * size) bytes))
block_there size n [] bytes d l f = absurd (omega (arith, l))
block_there size zero (o ∷ stored) bytes d l f =
    let e : 0 * size ≡ 0 = omega arith in rw f (λ i. Some (take size (drop (sym e i) bytes)))
block_there size (suc n) (o ∷ stored) bytes d l f =
    elim (cases_Bool o.is_filemark) [
      | inl e ↦ rw e (block_there size n stored bytes d (omega (arith, l)) f)
      | inr e ↦ rw e (block_there size n stored (drop size bytes) d (omega (arith, l)) f
          ∙ (λ i. Some (take size (drop-drop (blocks_in (take n stored) * size) size bytes i)))
          ∙ (λ i. Some (take size (drop (one_size_more size (blocks_in (take n stored)) i) bytes))))
    ]

-- Of what stands before a place.
pub cut_objects : (size p : ℕ) (stored : List StoredObject) (bytes : List ℕ)
    → objects_of size (take p stored) (take (blocks_in (take p stored) * size) bytes)
    ≡ take p (objects_of size stored bytes)
cut_objects size p stored bytes =
    first_bytes size (blocks_in (take p stored) * size) (take p stored) bytes (omega arith)
    ∙ sym (take_objects size p stored bytes)

-- Of the block that stands at a place.
pub block_fits : (stored : List StoredObject) (n size all : ℕ) (d : StoredObject) → AreCounted 0 stored
    → n < length stored → all ≡ blocks_in stored * size → (get_or stored n d).is_filemark ≡ false
    → (get_or stored n d).before * size + size ≤ all
block_fits stored n size all d c l e f =
    let m : ℕ = blocks_in (take n stored) in
    let same : (get_or stored n d).before * size ≡ m * size = (before_in stored n size all d c l e).0 in
    let most : suc m * size ≤ blocks_in stored * size = mul-le-mul_right size (blocks_below n stored d l f) in
    omega (arith, same, most, one_size_more size m, e)

pub block_here : (stored : List StoredObject) (n size : ℕ) (bytes : List ℕ) (d : StoredObject) → AreCounted 0 stored
    → n < length stored → length bytes ≡ blocks_in stored * size → (get_or stored n d).is_filemark ≡ false
    → block_at (objects_of size stored bytes) n ≡ Some (take size (drop ((get_or stored n d).before * size) bytes))
block_here stored n size bytes d c l e f =
    block_there size n stored bytes d l f
    ∙ (λ i. Some (take size (drop (sym (before_in stored n size (length bytes) d c l e).0 i) bytes)))

-- The blocks before a place are among all.
pub before_most : (stored : List StoredObject) (place size all : ℕ) → all ≡ blocks_in stored * size
    → blocks_in (take place stored) * size ≤ all
before_most stored place size all e =
    let parts : blocks_in (take place stored) + blocks_in (drop place stored) ≡ blocks_in stored
    = blocks_split place stored in
    let low : blocks_in (take place stored) * size ≤ blocks_in stored * size = mul-le-mul_right size (omega arith) in
    omega (arith, low, e)
