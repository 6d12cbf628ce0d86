-- The line of a row at the front of a piece.
use Rattle.std.proofs.Common.{◌≡◌, ℕ, ◌+◌, ◌-◌, ◌^◌, ◌<◌, ◌≤◌, Bool, true, false, ◌&&◌, List, [], ◌∷◌, ◌++◌, length}
use Rattle.std.proofs.Common.{get_or, take, drop, take_all, Some, None, refl, sym, ap, ◌∙◌, arith, append_assoc}
use Rattle.std.specs.Prelude.{nat_lt, nat_le, ◌==◌, codes, decimal}
use Rattle.std.specs.List.{prefix_len, list_all}
use Rattle.std.proofs.lemmas.Bool.{lt-ltb, and_parts}
use Rattle.std.proofs.lemmas.Bool.Decides.{nat_tests}
use Rattle.std.proofs.lemmas.List.{length-append, length-drop, length-take, take_at}
use Rattle.std.proofs.lemmas.List.Folds.{list_all-append}
use Rattle.text_words.specs.Words.{Number, number_at, is_digit, is_hex}
use Rattle.text_words.proofs.Again.{after_same, number_again, run_of}
use Rattle.text_words.proofs.Only.{cond_some, number_only}
use Rattle.bus_trace.specs.LineSet.{set_of}
use Rattle.bus_trace.specs.declared.Kind.{Kind}
use Rattle.bus_trace.specs.declared.Kind.TheVariants.{Drives}
use Rattle.bus_trace.specs.declared.Row.{Row}
use Rattle.trace_text.specs.Lines.{below, value_of, kind_at, row_at}
use Rattle.trace_text.specs.Pieces.{is_inner, text_of, StartsWithRow, is_row_end, lines_of_row, row_end, front_row}
use Rattle.trace_text.proofs.Short.{below_is}
use Rattle.trace_text.proofs.RowAgain.{decimal_inner, digit_inner}
use Rattle.trace_text.proofs.Pieces.{line_len_fed}

-- what stands after the number
abbrev pub end_of_row : List ℕ → List ℕ
end_of_row ys =
    32 ∷ get_or ys 1 0 ∷ 32 ∷ get_or ys 3 0 ∷ get_or ys 4 0 ∷ get_or ys 5 0 ∷ get_or ys 6 0 ∷ get_or ys 7 0 ∷ []

pub record IsRowEnd (ys : List ℕ) (kind : Kind) : Type 0 where
  pub nine : 9 ≤ length ys
  pub first : get_or ys 0 0 ≡ 32
  pub low : 48 ≤ get_or ys 1 0
  pub high : get_or ys 1 0 ≤ 55
  pub second : get_or ys 2 0 ≡ 32
  pub lines : kind_at (lines_of_row ys) ≡ Some kind
  pub feed : get_or ys 8 0 ≡ 10

spread : (ys : List ℕ) → 9 ≤ length ys
    → ys ≡ (get_or ys 0 0 ∷ get_or ys 1 0 ∷ get_or ys 2 0 ∷ lines_of_row ys) ++ get_or ys 8 0 ∷ drop 9 ys
spread [] h = absurd (omega arith)
spread (a ∷ []) h = absurd (omega arith)
spread (a ∷ b ∷ []) h = absurd (omega arith)
spread (a ∷ b ∷ c ∷ []) h = absurd (omega arith)
spread (a ∷ b ∷ c ∷ d ∷ []) h = absurd (omega arith)
spread (a ∷ b ∷ c ∷ d ∷ e ∷ []) h = absurd (omega arith)
spread (a ∷ b ∷ c ∷ d ∷ e ∷ f ∷ []) h = absurd (omega arith)
spread (a ∷ b ∷ c ∷ d ∷ e ∷ f ∷ g ∷ []) h = absurd (omega arith)
spread (a ∷ b ∷ c ∷ d ∷ e ∷ f ∷ g ∷ i ∷ []) h = absurd (omega arith)
spread (a ∷ b ∷ c ∷ d ∷ e ∷ f ∷ g ∷ i ∷ j ∷ ys) h = refl

end_is : (ys : List ℕ) (kind : Kind) → IsRowEnd ys kind → ys ≡ end_of_row ys ++ 10 ∷ drop 9 ys
end_is ys kind h =
    spread ys h.nine ∙ (λ i. (h.first i ∷ get_or ys 1 0 ∷ h.second i ∷ lines_of_row ys) ++ h.feed i ∷ drop 9 ys)

-- the five digits of lines are digits
five_inner : (a b c d e : ℕ) (kind : Kind) → kind_at (a ∷ b ∷ c ∷ d ∷ e ∷ []) ≡ Some kind
    → list_all is_inner (a ∷ b ∷ c ∷ d ∷ e ∷ []) ≡ true
five_inner a b c d e kind is =
    let p = cond_some (((((is_hex a && is_hex b) && is_hex c) && is_hex d) && is_hex e)
    && nat_lt (value_of a b c d e) 0x40000) (Drives (set_of (value_of a b c d e))) kind is in
    let all = and_parts ((((is_hex a && is_hex b) && is_hex c) && is_hex d) && is_hex e)
    (nat_lt (value_of a b c d e) 0x40000) p.0 in
    let four = and_parts (((is_hex a && is_hex b) && is_hex c) && is_hex d) (is_hex e) all.0 in
    let three = and_parts ((is_hex a && is_hex b) && is_hex c) (is_hex d) four.0 in
    let two = and_parts (is_hex a && is_hex b) (is_hex c) three.0 in
    let one = and_parts (is_hex a) (is_hex b) two.0 in
    rw (digit_inner a one.0, digit_inner b one.1, digit_inner c two.1, digit_inner d three.1, digit_inner e four.1) refl

end_inner : (ys : List ℕ) (kind : Kind) → IsRowEnd ys kind → list_all is_inner (end_of_row ys) ≡ true
end_inner ys kind h =
    let low = h.low in
    let high = h.high in
    let device : is_inner (get_or ys 1 0) ≡ true = grind (arith, nat_tests) in
    rw device (five_inner (get_or ys 3 0) (get_or ys 4 0) (get_or ys 5 0) (get_or ys 6 0) (get_or ys 7 0) kind h.lines)

row_is : (t : ℕ) (ys : List ℕ) (kind : Kind) → t < 2 ^ 63 → IsRowEnd ys kind
    → row_at (decimal t ++ end_of_row ys) ≡ Some (record { time = t; dev = get_or ys 1 0 - 48; kind = kind })
unfolding row_at
row_is t ys kind lt h =
    let low = h.low in
    let high = h.high in
    let device : is_digit (get_or ys 1 0) ≡ true = grind (arith, nat_tests) in
    rw (
      number_again t (end_of_row ys) (omega arith) refl,
      lt-ltb t (2 ^ 63) lt,
      after_same (codes " ") (get_or ys 1 0 ∷ 32 ∷ lines_of_row ys),
      device,
      after_same (codes " ") (lines_of_row ys),
      h.lines,
    ) refl

starts : (bytes line rest : List ℕ) (row : Row) (len : ℕ) → bytes ≡ line ++ 10 ∷ rest → list_all is_inner line ≡ true
    → row_at line ≡ Some row → len ≡ length line + 1 → StartsWithRow bytes row len
starts bytes line rest row len whole inner is e =
    let run : prefix_len is_inner bytes ≡ length line = ap (prefix_len is_inner) whole
    ∙ run_of is_inner line (10 ∷ rest) inner refl in
    let text : text_of bytes ≡ line = (λ i. take (run i) (whole i)) ∙ take_at line (10 ∷ rest) (length line) refl in
    let size : length bytes ≡ length line + length (10 ∷ rest) = ap length whole ∙ length-append line (10 ∷ rest) in
    let fed : prefix_len is_inner bytes < length bytes = omega arith in
    let count = line_len_fed bytes fed in
    record { is = ap row_at text ∙ is; whole = omega arith; ended = fed }

pub longer : (bytes ys : List ℕ) (n : Number) (t k : ℕ) → number_at bytes ≡ Some (n, ys) → below n ≡ Some t
    → length (take k (drop 9 ys)) ≤ length bytes
longer bytes ys n t k e b =
    let n-is = below_is n t b in
    let only = number_only bytes t ys (e ∙ ap (λ (m : Number). let y : Number × List ℕ = (m, ys) in Some y) n-is.0) in
    omega (arith, ap length only.1, length-append (decimal t) ys, length-drop 9 ys, length-take k (drop 9 ys))

pub row_front : (bytes ys : List ℕ) (n : Number) (t : ℕ) (kind : Kind)
    → number_at bytes ≡ Some (n, ys) → below n ≡ Some t → IsRowEnd ys kind
    → StartsWithRow bytes (record { time = t; dev = get_or ys 1 0 - 48; kind = kind })
    (length bytes - length (take (length ys - 9) (drop 9 ys)))
row_front bytes ys n t kind e b h =
    let n-is = below_is n t b in
    let lt = n-is.1 in
    let only = number_only bytes t ys (e ∙ ap (λ (m : Number). let y : Number × List ℕ = (m, ys) in Some y) n-is.0) in
    let tail = end_is ys kind h in
    let whole : bytes ≡ (decimal t ++ end_of_row ys) ++ 10 ∷ drop 9 ys = only.1
    ∙ ap (λ (l : List ℕ). decimal t ++ l) tail ∙ sym (append_assoc (decimal t) (end_of_row ys) (10 ∷ drop 9 ys)) in
    let inner : list_all is_inner (decimal t ++ end_of_row ys) ≡ true =
    list_all-append is_inner (decimal t) (end_of_row ys) ∙ rw (decimal_inner t (omega arith)) (end_inner ys kind h) in
    let nine = h.nine in
    let others : take (length ys - 9) (drop 9 ys) ≡ drop 9 ys = take_all
    (length ys - 9) (drop 9 ys) (omega (arith, length-drop 9 ys)) in
    let len : length bytes - length (take (length ys - 9) (drop 9 ys)) ≡ length (decimal t ++ end_of_row ys) + 1 =
    omega (
      arith,
      ap length others,
      length-drop 9 ys,
      ap length only.1,
      length-append (decimal t) ys,
      length-append (decimal t) (end_of_row ys),
    ) in
    starts bytes (decimal t ++ end_of_row ys) (drop 9 ys)
    (record { time = t; dev = get_or ys 1 0 - 48; kind = kind }) _ whole inner (row_is t ys kind lt h) len

-- ---- the same by its definition

front_is : (bytes ys : List ℕ) (n : Number) (t : ℕ) → number_at bytes ≡ Some (n, ys) → below n ≡ Some t
    → row_end bytes ys t ≡ front_row bytes
unfolding front_row
front_is bytes ys n t e b = rw (e, b) refl

-- what a line of a row has after its time
pub record HasEnd (ys : List ℕ) : Type 0 where
  pub nine : 9 ≤ length ys
  pub first : get_or ys 0 0 ≡ 32
  pub low : 48 ≤ get_or ys 1 0
  pub high : get_or ys 1 0 ≤ 55
  pub second : get_or ys 2 0 ≡ 32
  pub feed : get_or ys 8 0 ≡ 10

has_end : (ys : List ℕ) → is_row_end ys ≡ true → HasEnd ys
has_end ys e =
    let four = and_parts (nat_le 9 (length ys) && get_or ys 0 0 == 32
    && is_digit (get_or ys 1 0) && get_or ys 2 0 == 32) (get_or ys 8 0 == 10) e in
    let three = and_parts (nat_le 9 (length ys) && get_or ys 0 0 == 32 && is_digit (get_or ys 1 0))
    (get_or ys 2 0 == 32) four.0 in
    let two = and_parts (nat_le 9 (length ys) && get_or ys 0 0 == 32) (is_digit (get_or ys 1 0)) three.0 in
    let one = and_parts (nat_le 9 (length ys)) (get_or ys 0 0 == 32) two.0 in
    let digit = and_parts (nat_le 48 (get_or ys 1 0)) (nat_le (get_or ys 1 0) 55) two.1 in
    let nine = one.0 in
    let first = one.1 in
    let low = digit.0 in
    let high = digit.1 in
    let second = three.1 in
    let feed = four.1 in
    record {
      nine = grind (arith, nat_tests);
      first = grind (arith, nat_tests);
      low = grind (arith, nat_tests);
      high = grind (arith, nat_tests);
      second = grind (arith, nat_tests);
      feed = grind (arith, nat_tests);
    }

pub front_none : (bytes ys : List ℕ) (n : Number) (t : ℕ) → number_at bytes ≡ Some (n, ys) → below n ≡ Some t
    → (HasEnd ys → ⊥) → None ≡ front_row bytes
front_none bytes ys n t e b refuted = go (is_row_end ys) refl ∙ front_is bytes ys n t e b where
  go : (q : Bool) → is_row_end ys ≡ q → None ≡ row_end bytes ys t
  go true is = absurd (refuted (has_end ys is))
  go false is = rw is refl
