-- Blocks put and looked up, and the contents as a plain list.
use Rattle.std.proofs.Common.{ℕ, zero, suc, ◌≡◌, ◌+◌, ◌-◌, ◌<◌, ◌≤◌, List, [], ◌∷◌, ◌++◌, ◌∙◌, ◌⊎◌, inl, inr, refl, sym}
use Rattle.std.proofs.Common.{ap, arith, length, take, drop, replicate}
use Rattle.std.specs.Prelude.{◌==◌, if◌then◌else◌}
use Rattle.std.proofs.lemmas.Bool.Decides.{nat_tests}
use Rattle.std.proofs.lemmas.List.{take_at}
use Rattle.std.proofs.Math.Seq.{drop-append_seam}
use Rattle.array_model.specs.Contents.{Contents, blank_contents, zero_block, touched_block, touched_with, block_at}
use Rattle.array_model.specs.Contents.{with_block, bytes_at, with_bytes}
use Rattle.array_model.specs.PlainBlocks.{blocks_from, plain_blocks, bytes_of_blocks, blocks_of_bytes}

-- ---- one block

pub touched_same : (touched : List (ℕ × List ℕ)) (n : ℕ) (b : List ℕ) (k : ℕ) (z : List ℕ)
    → touched_block (touched_with touched n b) k z ≡ (if n == k then b else touched_block touched k z)
touched_same [] n b k z = refl
touched_same (e ∷ touched) n b k z =
    let h : touched_block (touched_with touched n b) k z ≡ (if n == k then b else touched_block touched k z) =
    touched_same touched n b k z in
    grind (arith, nat_tests)

pub block_same : (c : Contents) (n : ℕ) (b : List ℕ) (k : ℕ)
    → block_at (with_block c n b) k ≡ (if n == k then b else block_at c k)
block_same c n b k = touched_same c.touched n b k (zero_block c.size)

-- ---- lists of blocks

from_split : (f : ℕ → List ℕ) (lba a b : ℕ)
    → blocks_from f lba (a + b) ≡ blocks_from f lba a ++ blocks_from f (lba + a) b
from_split f lba zero b =
    let e : 0 + b ≡ b = omega arith in
    let w : lba ≡ lba + 0 = omega arith in
    ap (λ (x : ℕ). blocks_from f lba x) e ∙ ap (λ (x : ℕ). blocks_from f x b) w
from_split f lba (suc a) b =
    let e : suc a + b ≡ suc (a + b) = omega arith in
    let w : (lba + 1) + a ≡ lba + suc a = omega arith in
    let h : blocks_from f (lba + 1) (a + b) ≡ blocks_from f (lba + 1) a ++ blocks_from f ((lba + 1) + a) b = from_split
    f (lba + 1) a b in
    ap (λ (x : ℕ). blocks_from f lba x) e
    ∙ ap (λ (t : List (List ℕ)). f lba ∷ t) (h ∙ ap (λ (x : ℕ). blocks_from f (lba + 1) a ++ blocks_from f x b) w)

from_length : (f : ℕ → List ℕ) (lba n : ℕ) → length (blocks_from f lba n) ≡ n
from_length f lba zero = refl
from_length f lba (suc n) = ap (λ (x : ℕ). suc x) (from_length f (lba + 1) n)

from_same : (f g : ℕ → List ℕ) (lba n : ℕ) → ((k : ℕ) → lba ≤ k → k < lba + n → f k ≡ g k)
    → blocks_from f lba n ≡ blocks_from g lba n
from_same f g lba zero h = refl
from_same f g lba (suc n) h =
    let one : f lba ≡ g lba = h lba (omega arith) (omega arith) in
    let more : blocks_from f (lba + 1) n ≡ blocks_from g (lba + 1) n = from_same f g
    (lba + 1) n (λ k l u. h k (omega arith) (omega arith)) in
    λ i. one i ∷ more i

from_front : (f : ℕ → List ℕ) (lba a b : ℕ) → take a (blocks_from f lba (a + b)) ≡ blocks_from f lba a
from_front f lba a b =
    ap (λ (t : List (List ℕ)). take a t) (from_split f lba a b)
    ∙ take_at (blocks_from f lba a) (blocks_from f (lba + a) b) a (from_length f lba a)

from_rest : (f : ℕ → List ℕ) (lba a b : ℕ) → drop a (blocks_from f lba (a + b)) ≡ blocks_from f (lba + a) b
from_rest f lba a b =
    ap (λ (t : List (List ℕ)). drop a t) (from_split f lba a b)
    ∙ (λ i. drop (sym (from_length f lba a) i) (blocks_from f lba a ++ blocks_from f (lba + a) b))
    ∙ drop-append_seam (blocks_from f lba a) (blocks_from f (lba + a) b)

-- ---- what a read gives

read_of : (c : Contents) (lba n : ℕ) → bytes_at c lba n ≡ bytes_of_blocks (blocks_from (block_at c) lba n)
read_of c lba zero = refl
read_of c lba (suc n) = ap (λ (t : List ℕ). block_at c lba ++ t) (read_of c (lba + 1) n)

pub read_plain : (c : Contents) (lba n : ℕ) → lba + n ≤ c.count
    → bytes_at c lba n ≡ bytes_of_blocks (take n (drop lba (plain_blocks c)))
read_plain c lba n h =
    let f : ℕ → List ℕ = block_at c in
    let rest : ℕ = c.count - (lba + n) in
    let whole : c.count ≡ lba + (n + rest) = omega arith in
    let zero_plus : 0 + lba ≡ lba = omega arith in
    read_of c lba n
    ∙ ap bytes_of_blocks (
    sym (from_front f lba n rest)
    ∙ (λ i. take n (blocks_from f (sym zero_plus i) (n + rest)))
    ∙ ap (λ (t : List (List ℕ)). take n t) (sym (from_rest f 0 lba (n + rest)))
    ∙ (λ i. take n (drop lba (blocks_from f 0 (sym whole i)))))

-- ---- what a write leaves

pub count_kept : (c : Contents) (lba n : ℕ) (bytes : List ℕ) → (with_bytes c lba n bytes).count ≡ c.count
count_kept c lba zero bytes = refl
count_kept c lba (suc n) bytes = count_kept (with_block c lba (take c.size bytes)) (lba + 1) n (drop c.size bytes)

pub size_kept : (c : Contents) (lba n : ℕ) (bytes : List ℕ) → (with_bytes c lba n bytes).size ≡ c.size
size_kept c lba zero bytes = refl
size_kept c lba (suc n) bytes = size_kept (with_block c lba (take c.size bytes)) (lba + 1) n (drop c.size bytes)

put_other : (c : Contents) (n : ℕ) (b : List ℕ) (k : ℕ) → (n ≡ k → ⊥) → block_at (with_block c n b) k ≡ block_at c k
put_other c n b k ne =
    let h : block_at (with_block c n b) k ≡ (if n == k then b else block_at c k) = block_same c n b k in
    h ∙ go (block_at c k)
  where
    go : (z : List ℕ) → (if n == k then b else z) ≡ z
    go z = grind (arith, nat_tests)

put_here : (c : Contents) (n : ℕ) (b : List ℕ) → block_at (with_block c n b) n ≡ b
put_here c n b = block_same c n b n ∙ go (block_at c n)
  where
    go : (z : List ℕ) → (if n == n then b else z) ≡ b
    go z = grind (arith, nat_tests)

pub write_other : (c : Contents) (lba n : ℕ) (bytes : List ℕ) (k : ℕ)
    → ((k < lba) ⊎ (lba + n ≤ k)) → block_at (with_bytes c lba n bytes) k ≡ block_at c k
write_other c lba zero bytes k h = refl
write_other c lba (suc n) bytes k h =
    write_other (with_block c lba (take c.size bytes)) (lba + 1) n (drop c.size bytes) k
    (elim h [ inl u ↦ inl (omega arith) | inr u ↦ inr (omega arith) ])
    ∙ put_other c lba (take c.size bytes) k (elim h [ inl u ↦ λ e. omega arith | inr u ↦ λ e. omega arith ])

write_here : (c : Contents) (lba n : ℕ) (bytes : List ℕ)
    → blocks_from (block_at (with_bytes c lba n bytes)) lba n ≡ blocks_of_bytes c.size n bytes
write_here c lba zero bytes = refl
write_here c lba (suc n) bytes =
    let d : Contents = with_block c lba (take c.size bytes) in
    let one : block_at (with_bytes d (lba + 1) n (drop c.size bytes)) lba ≡ take c.size bytes =
    write_other d (lba + 1) n (drop c.size bytes) lba (inl (omega arith)) ∙ put_here c lba (take c.size bytes) in
    let more : blocks_from (block_at (with_bytes d (lba + 1) n (drop c.size bytes))) (lba + 1) n
    ≡ blocks_of_bytes c.size n (drop c.size bytes) = write_here d (lba + 1) n (drop c.size bytes) in
    λ i. one i ∷ more i

pub write_plain : (c : Contents) (lba n : ℕ) (bytes : List ℕ) → lba + n ≤ c.count
    → plain_blocks (with_bytes c lba n bytes)
    ≡ take lba (plain_blocks c) ++ (blocks_of_bytes c.size n bytes ++ drop (lba + n) (plain_blocks c))
write_plain c lba n bytes h =
    let f : ℕ → List ℕ = block_at c in
    let g : ℕ → List ℕ = block_at (with_bytes c lba n bytes) in
    let rest : ℕ = c.count - (lba + n) in
    let whole : c.count ≡ lba + (n + rest) = omega arith in
    let whole_too : c.count ≡ (lba + n) + rest = omega arith in
    let from_lba : 0 + lba ≡ lba = omega arith in
    let from_end : 0 + (lba + n) ≡ lba + n = omega arith in
    let front : blocks_from g 0 lba ≡ take lba (blocks_from f 0 c.count) =
    from_same g f 0 lba (λ k l u. write_other c lba n bytes k (inl (omega arith)))
    ∙ sym (from_front f 0 lba (n + rest)) ∙ (λ i. take lba (blocks_from f 0 (sym whole i))) in
    let back : blocks_from g (lba + n) rest ≡ drop (lba + n) (blocks_from f 0 c.count) =
    from_same g f (lba + n) rest (λ k l u. write_other c lba n bytes k (inr l))
    ∙ (λ i. blocks_from f (sym from_end i) rest)
    ∙ sym (from_rest f 0 (lba + n) rest) ∙ (λ i. drop (lba + n) (blocks_from f 0 (sym whole_too i))) in
    (λ i. blocks_from g 0 (count_kept c lba n bytes i))
    ∙ (λ i. blocks_from g 0 (whole i))
    ∙ from_split g 0 lba (n + rest)
    ∙ (λ i. blocks_from g 0 lba ++ blocks_from g (from_lba i) (n + rest))
    ∙ (λ i. blocks_from g 0 lba ++ from_split g lba n rest i)
    ∙ (λ i. front i ++ (write_here c lba n bytes i ++ back i))

-- ---- the start

pub blank_plain : (count size : ℕ) → plain_blocks (blank_contents count size) ≡ replicate count (zero_block size)
blank_plain count size = go 0 count
  where
    go : (lba n : ℕ) → blocks_from (block_at (blank_contents count size)) lba n ≡ replicate n (zero_block size)
    go lba zero = refl
    go lba (suc n) = ap (λ (t : List (List ℕ)). zero_block size ∷ t) (go (lba + 1) n)

pub length_plain : (c : Contents) → length (plain_blocks c) ≡ c.count
length_plain c = from_length (block_at c) 0 c.count
