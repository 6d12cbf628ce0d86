-- Bytes of several blocks, by block and place.
use Rattle.std.proofs.Common.{ℕ, zero, suc, ◌≡◌, ◌+◌, ◌*◌, ◌-◌, ◌<◌, ◌≤◌, List, ◌++◌, ◌∙◌, sym, arith, append_assoc}
use Rattle.std.proofs.Common.{add-one, length, take, drop}
use Rattle.std.specs.Prelude.{◌/◌, ◌%◌}
use Rattle.std.proofs.lemmas.List.{take-append-le, drop-append-le, length-append, length-drop, length-take-le, take_at}
use Rattle.std.proofs.lemmas.List.{drop-drop}
use Rattle.std.proofs.Math.Nat.{suc-mul, div-add-mod', div-lt_iff_lt-mul}
use Rattle.std.proofs.Math.Seq.{drop-append-add, take-append-add, take-add}
use borrow.Rule.Slice.PartMut.{put_mid}
use Rattle.array_model.specs.Contents.{Contents, block_at, bytes_at, with_block, with_bytes}

pub length_bytes : (c : Contents) → ((k : ℕ) → length (block_at c k) ≡ c.size) → (lba n : ℕ)
    → length (bytes_at c lba n) ≡ n * c.size
length_bytes c w lba zero = omega arith
length_bytes c w lba (suc n) =
    let h : length (bytes_at c (lba + 1) n) ≡ n * c.size = length_bytes c w (lba + 1) n in
    let one : length (block_at c lba) ≡ c.size = w lba in
    let both : length (block_at c lba ++ bytes_at c (lba + 1) n)
    ≡ length (block_at c lba) + length (bytes_at c (lba + 1) n) = length-append
    (block_at c lba) (bytes_at c (lba + 1) n) in
    let more : suc n * c.size ≡ n * c.size + c.size = suc-mul n c.size in
    omega arith

-- The bytes at a place of one block.
part_in : (c : Contents) → ((k : ℕ) → length (block_at c k) ≡ c.size) → (lba n q o part : ℕ) → q < n → o + part ≤ c.size
    → take part (drop (q * c.size + o) (bytes_at c lba n)) ≡ take part (drop o (block_at c (lba + q)))
part_in c w lba zero q o part l u = absurd (omega arith)
part_in c w lba (suc n) zero o part l u =
    let one : length (block_at c lba) ≡ c.size = w lba in
    let start : 0 * c.size + o ≡ o = omega arith in
    let here : lba ≡ lba + 0 = omega arith in
    let fits : o ≤ length (block_at c lba) = omega arith in
    let left : length (drop o (block_at c lba)) ≡ length (block_at c lba) - o = length-drop o (block_at c lba) in
    let reach : part ≤ length (drop o (block_at c lba)) = omega arith in
    (λ i. take part (drop (start i) (block_at c lba ++ bytes_at c (lba + 1) n)))
    ∙ (λ i. take part (drop-append-le o (block_at c lba) (bytes_at c (lba + 1) n) fits i))
    ∙ take-append-le part (drop o (block_at c lba)) (bytes_at c (lba + 1) n) reach
    ∙ (λ i. take part (drop o (block_at c (here i))))
part_in c w lba (suc n) (suc q) o part l u =
    let one : length (block_at c lba) ≡ c.size = w lba in
    let more : suc q * c.size ≡ q * c.size + c.size = suc-mul q c.size in
    let start : suc q * c.size + o ≡ length (block_at c lba) + (q * c.size + o) = omega arith in
    let here : (lba + 1) + q ≡ lba + suc q = omega arith in
    (λ i. take part (drop (start i) (block_at c lba ++ bytes_at c (lba + 1) n)))
    ∙ (λ i. take part (drop-append-add (block_at c lba) (bytes_at c (lba + 1) n) (q * c.size + o) i))
    ∙ part_in c w (lba + 1) n q o part (omega arith) u
    ∙ (λ i. take part (drop o (block_at c (here i))))

place_low : (c : Contents) → ((k : ℕ) → length (block_at c k) ≡ c.size) → (lba n place : ℕ) → 1 ≤ c.size
    → place < length (bytes_at c lba n) → place / c.size < n
place_low c w lba n place some h =
    let all : length (bytes_at c lba n) ≡ n * c.size = length_bytes c w lba n in
    let u : place < n * c.size = omega arith in
    let k : 0 < c.size = omega arith in
    (div-lt_iff_lt-mul {k = c.size} {x = place} {y = n} k).1 u

part_low : (c : Contents) → ((k : ℕ) → length (block_at c k) ≡ c.size) → (lba n place part : ℕ) → 1 ≤ c.size
    → place < length (bytes_at c lba n) → part ≤ c.size - place % c.size
    → take part (drop (place % c.size) (block_at c (lba + place / c.size))) ≡ take part (drop place (bytes_at c lba n))
part_low c w lba n place part some h u =
    let q : place / c.size < n = place_low c w lba n place some h in
    let low : place % c.size < c.size = omega arith in
    let same : (place / c.size) * c.size + place % c.size ≡ place = div-add-mod' place c.size in
    sym (part_in c w lba n (place / c.size) (place % c.size) part q (omega arith))
    ∙ (λ i. take part (drop (same i) (bytes_at c lba n)))

pub place_within : (c : Contents) → ((k : ℕ) → length (block_at c k) ≡ c.size) → (lba n place r : ℕ) → r ≡ c.size
    → 1 ≤ c.size → place < length (bytes_at c lba n) → place / r < n
place_within c w lba n place r e some h = rw e (place_low c w lba n place some h)

pub part_of : (c : Contents) → ((k : ℕ) → length (block_at c k) ≡ c.size) → (lba n place r part : ℕ) → r ≡ c.size
    → 1 ≤ c.size → place < length (bytes_at c lba n) → part ≤ r - place % r
    → take part (drop (place % r) (block_at c (lba + place / r))) ≡ take part (drop place (bytes_at c lba n))
part_of c w lba n place r part e some h u =
    let k : part ≤ c.size - place % c.size = (rw (← e) u) in
    rw e (part_low c w lba n place part some h k)

pub length_put : (into new : List ℕ) (done : ℕ) → done ≤ length into → length new ≡ length into - done
    → length (put_mid done (length into - done) into new) ≡ length into
length_put into new done l e =
    let post : List ℕ = drop (length into - done) (drop done into) in
    let one : length (take done into ++ (new ++ post)) ≡ length (take done into) + length (new ++ post) = length-append
    (take done into) (new ++ post) in
    let two : length (new ++ post) ≡ length new + length post = length-append new post in
    let three : length (take done into) ≡ done = length-take-le done into l in
    let four : length post ≡ length (drop done into) - (length into - done) = length-drop
    (length into - done) (drop done into) in
    let five : length (drop done into) ≡ length into - done = length-drop done into in
    omega arith

-- The rest of a block after those that were read.
pub more_read : (all into new : List ℕ) (at done n k : ℕ) → done ≤ length into
    → take done into ≡ take done (drop at all) → n ≤ length into - done
    → at + length into ≤ length all → new ≡ take n (drop (at + done) all) ++ drop n (drop done into)
    → take (done + n) (put_mid done k into new) ≡ take (done + n) (drop at all)
more_read all into new at done n k l h m u e =
    let front : List ℕ = take n (drop (at + done) all) in
    let rest : List ℕ = drop n (drop done into) in
    let post : List ℕ = drop k (drop done into) in
    let long : length (take done into) ≡ done = length-take-le done into l in
    let left : length (drop (at + done) all) ≡ length all - (at + done) = length-drop (at + done) all in
    let reach : n ≤ length (drop (at + done) all) = omega arith in
    let size : length front ≡ n = length-take-le n (drop (at + done) all) reach in
    (λ i. take (sym long i + n) (take done into ++ (e i ++ post)))
    ∙ take-append-add (take done into) ((front ++ rest) ++ post) n
    ∙ (λ i. take done into ++ take n (append_assoc front rest post i))
    ∙ (λ i. take done into ++ take_at front (rest ++ post) n size i)
    ∙ (λ i. h i ++ take n (drop_drop i))
    ∙ sym (take-add done n (drop at all))
  where
    drop_drop : drop (at + done) all ≡ drop done (drop at all)
    drop_drop = sym (drop-drop done at all)

-- One block more is written.
pub more_written : (c d all : Contents) (lba n i r : ℕ) (block sent : List ℕ) → i < n
    → r ≡ c.size → block ≡ take r (drop (i * r) sent) → d ≡ with_block c (lba + i) block
    → with_bytes c (lba + i) (n - i) (drop (i * r) sent) ≡ all
    → with_bytes d (lba + (i + 1)) (n - (i + 1)) (drop ((i + 1) * r) sent) ≡ all
more_written c d all lba n i r block sent l e f h k =
    let m : ℕ = n - (i + 1) in
    let left : suc m ≡ n - i = omega arith in
    let next : lba + (i + 1) ≡ (lba + i) + 1 = omega arith in
    let further : (i + 1) * r ≡ i * r + r = (rw (add-one i) (suc-mul i r)) in
    (λ j. with_bytes (h j) (next j) m (drop (further j) sent))
    ∙ (λ j. with_bytes (with_block c (lba + i) (f j)) ((lba + i) + 1) m (sym (drop-drop r (i * r) sent) j))
    ∙ (λ j. with_bytes (with_block c (lba + i) (take (e j) (drop (i * r) sent))) ((lba + i) + 1) m
    (drop (e j) (drop (i * r) sent))) ∙ (λ j. with_bytes c (lba + i) (left j) (drop (i * r) sent)) ∙ k
