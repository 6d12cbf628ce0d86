-- The bytes that hexadecimal digits spell, where the last one of an odd number is left out.
use Rattle.std.proofs.Common.{◌≡◌, ℕ, suc, ◌+◌, ◌*◌, ◌/◌, List, [], ◌∷◌, ◌++◌, length, take, refl, ap, ◌∙◌, arith}
use Rattle.text_words.specs.Words.{bytes_of, hex_value}

pub even_digits : (ds : List ℕ) → bytes_of (take (length ds / 2 * 2) ds) ≡ bytes_of ds
even_digits [] = refl
even_digits (a ∷ []) = refl
even_digits (a ∷ b ∷ ds) =
    let two : length (a ∷ b ∷ ds) / 2 * 2 ≡ suc (suc (length ds / 2 * 2)) = omega arith in
    ap (λ (n : ℕ). bytes_of (take n (a ∷ b ∷ ds))) two
    ∙ ap (λ (bs : List ℕ). (hex_value a * 16 + hex_value b) ∷ bs) (even_digits ds)

pub count_of_bytes : (ds : List ℕ) → length (bytes_of ds) ≡ length ds / 2
count_of_bytes [] = refl
count_of_bytes (a ∷ []) = refl
count_of_bytes (a ∷ b ∷ ds) = ap suc (count_of_bytes ds) ∙ omega arith

pub front : (xs ys : List ℕ) (n : ℕ) → n ≡ length xs → take n (xs ++ ys) ≡ xs
front xs ys n e = ap (λ (m : ℕ). take m (xs ++ ys)) e ∙ whole xs where
  whole : (zs : List ℕ) → take (length zs) (zs ++ ys) ≡ zs
  whole [] = refl
  whole (z ∷ zs) = ap (λ (l : List ℕ). z ∷ l) (whole zs)
