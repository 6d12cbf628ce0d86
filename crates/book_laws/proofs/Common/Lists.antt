-- Lists of bytes.
use Rattle.book_laws.proofs
use proofs.Names.{ℕ, ◌≡◌, ◌<◌, ◌+◌, zero, suc, not, List, [], ◌∷◌, ◌++◌, length, refl, ap, arith, length-append}
use proofs.Names.{nat_tests, slice_index_or, slice_set, nat_lt, is_nil, Understanding, understood, understood_byte}

pub word_at : (xs : List ℕ) (b : ℕ) (ys : List ℕ) → slice_index_or (xs ++ b ∷ ys) (length xs) 0 ≡ b
word_at [] b ys = refl
word_at (x ∷ xs) b ys = word_at xs b ys

pub more_after : (xs : List ℕ) (b : ℕ) (ys : List ℕ) → nat_lt (length xs + 1) (length (xs ++ b ∷ ys)) ≡ not (is_nil ys)
more_after xs b [] =
    let e : length (xs ++ b ∷ []) ≡ length xs + 1 = length-append xs (b ∷ []) in
    grind (arith, nat_tests)
more_after xs b (c ∷ ys) =
    let e : length (xs ++ b ∷ c ∷ ys) ≡ length xs + suc (suc (length ys)) = length-append xs (b ∷ c ∷ ys) in
    grind (arith, nat_tests)

pub understood_append : (h : Understanding) (xs ys : List ℕ) → understood h (xs ++ ys) ≡ understood (understood h xs) ys
understood_append h [] ys = refl
understood_append h (x ∷ xs) ys = understood_append (understood_byte h x) xs ys

-- Put where it stands already, a byte changes nothing.
pub set_same : (xs ys : List ℕ) (at b : ℕ) → at < length xs → b ≡ slice_index_or (xs ++ ys) at 0
    → slice_set xs at b ≡ xs
set_same [] ys at b lt e = absurd omega (arith, lt)
set_same (x ∷ xs) ys zero b lt e = λ i. e i ∷ xs
set_same (x ∷ xs) ys (suc at) b lt e =
    let o : at < length xs = omega (arith, lt) in
    ap (λ (zs : List ℕ). x ∷ zs) (set_same xs ys at b o e)
