-- Bytes that count up, one after the other.
use Rattle.std.proofs.Common.{ℕ, suc, ◌≡◌, ◌+◌, ◌-◌, ◌<◌, ◌∙◌, List, [], ◌∷◌, ◌++◌, refl, sym, arith}
use Rattle.std.specs.Prelude.{◌%◌}
use Rattle.std.proofs.lemmas.List.{append_assoc}
use Rattle.due_model.specs.array_model.specs.Processes.{bytes_from}

pub one_byte_more : (xs all : List ℕ) (first i n byte : ℕ) → i < n → byte ≡ (first + i) % 256
    → xs ++ bytes_from (first + i) (n - i) ≡ all → (xs ++ byte ∷ []) ++ bytes_from (first + (i + 1)) (n - (i + 1)) ≡ all
one_byte_more xs all first i n byte h b e =
    let left : n - i ≡ suc (n - (i + 1)) = omega (arith, h) in
    let next : first + (i + 1) ≡ first + i + 1 = omega arith in
    append_assoc xs (byte ∷ []) (bytes_from (first + (i + 1)) (n - (i + 1)))
    ∙ (λ j. xs ++ b j ∷ bytes_from (next j) (n - (i + 1)))
    ∙ (λ j. xs ++ bytes_from (first + i) (sym left j))
    ∙ e

pub next_byte : (first i byte : ℕ) → byte ≡ (first + i) % 256 → (byte + 1) % 256 ≡ (first + (i + 1)) % 256
next_byte first i byte e = omega (arith, e)

pub all_bytes_made : (xs all : List ℕ) (first n : ℕ) → xs ++ bytes_from (first + n) (n - n) ≡ all → xs ≡ all
all_bytes_made xs all first n e = none (n - n) (omega arith) e
  where
    none : (k : ℕ) → k ≡ 0 → xs ++ bytes_from (first + n) k ≡ all → xs ≡ all
    none k z e = sym (append_none xs) ∙ (λ j. xs ++ bytes_from (first + n) (sym z j)) ∙ e
      where
        append_none : (ys : List ℕ) → ys ++ [] ≡ ys
        append_none [] = refl
        append_none (y ∷ ys) = λ j. y ∷ append_none ys j
