-- A text that is read from a place of a piece on, line by line.
use Rattle.std.proofs.Common.{ℕ, ◌≡◌, ◌+◌, ◌-◌, ◌≤◌, List, [], ◌∷◌, ◌++◌, length, take, drop, reverse, append_assoc}
use Rattle.std.proofs.Common.{take_all, refl, sym, ap, ◌∙◌, arith}
use Rattle.std.proofs.Math.Seq.{take-add}
use Rattle.std.proofs.lemmas.List.{length-append, length-drop, length-reverse, length-take, reverse-append}
use Rattle.trace_text.specs.declared.limit.TheConstants.{LIMIT as TRACE_LIMIT}

-- what is left of a piece after its first `at` bytes
abbrev pub left : List ℕ → ℕ → List ℕ
left piece at = take (length piece - at) (drop at piece)

left-is : (piece : List ℕ) (at : ℕ) → left piece at ≡ drop at piece
left-is piece at = take_all (length piece - at) (drop at piece) (omega (arith, length-drop at piece))

pub left-len : (piece : List ℕ) (at : ℕ) → length (left piece at) ≡ length piece - at
left-len piece at = ap length (left-is piece at) ∙ length-drop at piece

-- n bytes more
next : (piece : List ℕ) (at n : ℕ)
    → reverse (take n (left piece at)) ++ reverse (take at piece) ≡ reverse (take (at + n) piece)
next piece at n =
    ap (λ (l : List ℕ). reverse (take n l) ++ reverse (take at piece)) (left-is piece at)
    ∙ sym (reverse-append (take at piece) (take n (drop at piece)))
    ∙ ap (λ (l : List ℕ). reverse l) (sym (take-add at n piece))

pub onward : (piece bytes : List ℕ) (at n : ℕ)
    → reverse (take n (left piece at)) ++ (reverse (take at piece) ++ bytes) ≡ reverse (take (at + n) piece) ++ bytes
onward piece bytes at n =
    sym (append_assoc (reverse (take n (left piece at))) (reverse (take at piece)) bytes)
    ∙ ap (λ (l : List ℕ). l ++ bytes) (next piece at n)

pub room : (piece bytes : List ℕ) (at : ℕ) → at ≤ length piece → length bytes + length piece ≤ TRACE_LIMIT
    → length (reverse (take at piece) ++ bytes) + length (left piece at) ≤ TRACE_LIMIT
room piece bytes at within few = omega (
  arith,
  length-append (reverse (take at piece)) bytes,
  length-reverse (take at piece),
  length-take at piece,
  left-len piece at,
)

none_of : (piece bytes : List ℕ) → reverse (take 0 piece) ++ bytes ≡ bytes
none_of [] bytes = refl
none_of (b ∷ piece) bytes = refl

-- no byte more
pub none_taken : (piece bytes : List ℕ) (n : ℕ) → n ≡ 0 → reverse (take n piece) ++ bytes ≡ bytes
none_taken piece bytes n is = ap (λ (k : ℕ). reverse (take k piece) ++ bytes) is ∙ none_of piece bytes
