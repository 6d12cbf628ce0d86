-- All blocks one after the other: what a read and a write of one are.
use Rattle.std.proofs.Common.{◌≡◌, ◌≢◌, ◌<◌, ◌≤◌, ℕ, ◌+◌, ◌-◌, ◌*◌, zero, suc, Bool, true, false, List, ◌∷◌, ◌++◌}
use Rattle.std.proofs.Common.{length, refl, ap, sym, ◌∙◌, arith, eq-eqb, take, drop, replicate}
use Rattle.std.specs.Prelude.{◌==◌, nat_lt, if◌then◌else◌}
use Rattle.std.proofs.lemmas.List.{length-drop, length-take-le, length-replicate, drop-drop, drop-replicate}
use Rattle.std.proofs.lemmas.List.{take-replicate, drop-take, take-append-le, drop-append-le}
use Rattle.std.proofs.Math.Seq.{take-append_seam, drop-append_seam}
use Rattle.std.proofs.lemmas.Grind.{common_steps}
use borrow.Rule.Slice.PartMut.{put_mid}
use Rattle.array_model.specs.Contents.{touched_block, touched_with}
use Rattle.disk_unit.specs.Dense.{blocks_in}
use Rattle.std.proofs.lemmas.Bool.{ne_eqb, le-ltb}

suc_times : (n size : ℕ) → suc n * size ≡ size + n * size
suc_times n size = grind arith

times_within : (lba n size total : ℕ) → suc lba ≤ n → total ≡ size + n * size → size + lba * size ≤ total
times_within lba n size total below is_total = grind (arith, common_steps)

pub read_dense : (size : ℕ) (first n : ℕ) (bytes : List ℕ) (lba : ℕ) (otherwise : List ℕ) → lba < n
    → touched_block (blocks_in size first n bytes) (first + lba) otherwise ≡ take size (drop (lba * size) bytes)
read_dense size first zero bytes lba otherwise within = absurd (let q : ⊥ = omega arith in q)
read_dense size first (suc n) bytes zero otherwise within =
    let here : first ≡ first + 0 = omega arith in
    let none : 0 * size ≡ 0 = omega arith in
    ap (λ (b : Bool). if b then take size bytes
    else touched_block (blocks_in size (suc first) n (drop size bytes)) (first + 0) otherwise)
    (eq-eqb first (first + 0) here) ∙ ap (λ (k : ℕ). take size (drop k bytes)) (sym none)
read_dense size first (suc n) bytes (suc lba) otherwise within =
    let other : first ≢ first + suc lba = omega arith in
    let next : first + suc lba ≡ suc first + lba = omega arith in
    ap (λ (b : Bool). if b then take size bytes
    else touched_block (blocks_in size (suc first) n (drop size bytes)) (first + suc lba) otherwise)
    (ne_eqb first (first + suc lba) other)
    ∙ ap (λ (k : ℕ). touched_block (blocks_in size (suc first) n (drop size bytes)) k otherwise) next
    ∙ read_dense size (suc first) n (drop size bytes) lba otherwise (omega arith)
    ∙ ap (take size) (drop-drop (lba * size) size bytes)
    ∙ ap (λ (k : ℕ). take size (drop k bytes)) (sym (suc_times lba size))

-- These bytes stand from there on.
abbrev pub put_at : ℕ → List ℕ → List ℕ → List ℕ
put_at start bytes from = take start bytes ++ (from ++ drop (start + length from) bytes)

take_put : (size start : ℕ) (bytes from : List ℕ) → size + start ≤ length bytes
    → take size (put_at (size + start) bytes from) ≡ take size bytes
take_put size start bytes from within = grind (arith, common_steps, take-append-le)

drop_put : (size start : ℕ) (bytes from : List ℕ) → size + start ≤ length bytes
    → drop size (put_at (size + start) bytes from) ≡ put_at start (drop size bytes) from
drop_put size start bytes from within =
    let long : size ≤ length (take (size + start) bytes) = grind (arith, common_steps) in
    drop-append-le size (take (size + start) bytes) (from ++ drop (size + start + length from) bytes) long
    ∙ ap (λ (l : List ℕ). l ++ (from ++ drop (size + start + length from) bytes)) (drop-take size start bytes)
    ∙ ap (λ (l : List ℕ). take start (drop size bytes) ++ (from ++ l))
    (ap (λ (k : ℕ). drop k bytes) (let e : size + start + length from ≡ size + (start + length from) = omega arith in e)
    ∙ sym (drop-drop (start + length from) size bytes))

pub put_mid_is : (start size : ℕ) (bytes from : List ℕ) → size ≡ length from
    → put_mid start size bytes from ≡ put_at start bytes from
put_mid_is start size bytes from fits = ap (λ (l : List ℕ). take start bytes ++ (from ++ l))
    (drop-drop size start bytes ∙ ap (λ (k : ℕ). drop (start + k) bytes) fits)

pub length_put : (start : ℕ) (bytes from : List ℕ) → start + length from ≤ length bytes
    → length (put_at start bytes from) ≡ length bytes
length_put start bytes from within = grind (arith, common_steps)

pub write_dense : (size : ℕ) (first n : ℕ) (bytes from : List ℕ) (lba : ℕ) → lba < n
    → length bytes ≡ n * size → length from ≡ size → blocks_in size first n (put_at (lba * size) bytes from)
    ≡ touched_with (blocks_in size first n bytes) (first + lba) from
write_dense size first zero bytes from lba within whole fits = absurd (let q : ⊥ = omega arith in q)
write_dense size first (suc n) bytes from zero within whole fits =
    let none : 0 * size ≡ 0 = omega arith in
    let here : first ≡ first + 0 = omega arith in
    let front : take size (from ++ drop (length from) bytes) ≡ from =
    ap (λ (k : ℕ). take k (from ++ drop (length from) bytes)) (sym fits)
    ∙ take-append_seam from (drop (length from) bytes) in
    let back : drop size (from ++ drop (length from) bytes) ≡ drop size bytes =
    ap (λ (k : ℕ). drop k (from ++ drop (length from) bytes)) (sym fits)
    ∙ drop-append_seam from (drop (length from) bytes) ∙ ap (λ (k : ℕ). drop k bytes) fits in
    let start : 0 + length from ≡ length from = omega arith in
    ap (λ (k : ℕ). blocks_in size first (suc n) (put_at k bytes from)) none
    ∙ ap (λ (k : ℕ). blocks_in size first (suc n) (from ++ drop k bytes)) start
    ∙ (λ i. (here i, front i) ∷ blocks_in size (suc first) n (back i))
    ∙ sym (ap (λ (b : Bool). if b then (first + 0, from) ∷ blocks_in size (suc first) n (drop size bytes)
    else if nat_lt (first + 0) first
    then (first + 0, from) ∷ ((first, take size bytes) ∷ blocks_in size (suc first) n (drop size bytes))
    else (first, take size bytes) ∷ touched_with (blocks_in size (suc first) n (drop size bytes)) (first + 0) from)
    (eq-eqb first (first + 0) here))
write_dense size first (suc n) bytes from (suc lba) within whole fits =
    let other : first ≢ first + suc lba = omega arith in
    let not_over : nat_lt (first + suc lba) first ≡ false = le-ltb (first + suc lba) first (omega arith) in
    let next : suc first + lba ≡ first + suc lba = omega arith in
    let total : length bytes ≡ size + n * size = whole ∙ suc_times n size in
    let within_it : size + lba * size ≤ length bytes = times_within lba n size (length bytes) (omega arith) total in
    let rest_whole : length (drop size bytes) ≡ n * size = grind (arith, common_steps) in
    ap (λ (k : ℕ). blocks_in size first (suc n) (put_at k bytes from)) (suc_times lba size)
    ∙ (λ i. (first, take_put size (lba * size) bytes from within_it i)
    ∷ blocks_in size (suc first) n (drop_put size (lba * size) bytes from within_it i))
    ∙ ap (λ (t : List (ℕ × List ℕ)). (first, take size bytes) ∷ t)
    (write_dense size (suc first) n (drop size bytes) from lba (omega arith) rest_whole fits)
    ∙ ap
    (λ (k : ℕ). (first, take size bytes) ∷ touched_with (blocks_in size (suc first) n (drop size bytes)) k from) next
    ∙ sym (λ i. if ne_eqb first (first + suc lba) other i
    then (first + suc lba, from) ∷ blocks_in size (suc first) n (drop size bytes) else if not_over i
    then (first + suc lba, from) ∷ ((first, take size bytes) ∷ blocks_in size (suc first) n (drop size bytes)) else
    (first, take size bytes) ∷ touched_with (blocks_in size (suc first) n (drop size bytes)) (first + suc lba) from)

pub zero_dense : (size first n lba : ℕ)
    → touched_block (blocks_in size first n (replicate (n * size) 0)) lba (replicate size 0) ≡ replicate size 0
zero_dense size first zero lba = refl
zero_dense size first (suc n) lba = go (first == lba) (zero_dense size (suc first) n lba)
  where
    back : drop {A = ℕ} size (replicate (suc n * size) 0) ≡ replicate (n * size) 0
    back = drop-replicate size (suc n * size) 0 ∙ ap (λ (k : ℕ). replicate {A = ℕ} k 0)
        (let e = suc_times n size in let f : suc n * size - size ≡ n * size = omega arith in f)

    go : (b : Bool) → touched_block (blocks_in size (suc first) n (replicate (n * size) 0)) lba (replicate size 0)
        ≡ replicate size 0
        → (if b then take size (replicate (suc n * size) 0) else touched_block
        (blocks_in size (suc first) n (drop size (replicate (suc n * size) 0))) lba (replicate size 0))
        ≡ replicate size 0
    go true rest = take-replicate size (suc n * size) 0
        (let e = suc_times n size in let f : size ≤ suc n * size = omega arith in f)
    go false rest =
        ap (λ (l : List ℕ). touched_block (blocks_in size (suc first) n l) lba (replicate size 0)) back ∙ rest

pub block_within : (lba n size total : ℕ) → lba < n → total ≡ n * size → lba * size + size ≤ total
block_within lba n size total below is_total = grind (arith, common_steps)

-- Every block has the size.
pub dense_whole : (size first n lba : ℕ) (bytes : List ℕ) → length bytes ≡ n * size
    → length (touched_block (blocks_in size first n bytes) lba (replicate size 0)) ≡ size
dense_whole size first zero lba bytes whole = length-replicate size 0
dense_whole size first (suc n) lba bytes whole =
    let e : suc n * size ≡ size + n * size = suc_times n size in
    let left : length (drop size bytes) ≡ length bytes - size = length-drop size bytes in
    go (first == lba) (length-take-le size bytes (omega arith))
    (dense_whole size (suc first) n lba (drop size bytes) (omega arith))
  where
    go : (x : Bool) → length (take size bytes) ≡ size
        → length (touched_block (blocks_in size (suc first) n (drop size bytes)) lba (replicate size 0)) ≡ size
        → length (if x then take size bytes
        else touched_block (blocks_in size (suc first) n (drop size bytes)) lba (replicate size 0)) ≡ size
    go true one more = one
    go false one more = more
