-- The line of a row is read again, and so is that of the end.
use Rattle.std.proofs.Common.{◌≡◌, ℕ, zero, suc, ◌+◌, ◌≤◌, ◌-◌, ◌*◌, ◌/◌, ◌%◌, ◌^◌, ◌<◌, Bool, true, false, ◌&&◌, List}
use Rattle.std.proofs.Common.{[], ◌∷◌, ◌++◌, Some, None, refl, sym, ap, ◌∙◌, arith, append_assoc}
use Rattle.std.specs.Prelude.{nat_le, codes, decimal}
use Rattle.std.specs.List.{list_all}
use Rattle.std.specs.Char.{is_ascii_digit}
use Rattle.std.specs.Fmt.{digits}
use Rattle.std.proofs.lemmas.Bool.{lt-ltb}
use Rattle.std.proofs.lemmas.Bool.Decides.{nat_tests}
use Rattle.std.proofs.lemmas.List.{append-nil}
use Rattle.std.proofs.lemmas.List.Folds.{list_all-append}
use Rattle.text_words.specs.Words.{number_at, is_hex, hex_value}
use Rattle.text_words.specs.Spelling.{hex_digit}
use Rattle.text_words.proofs.Again.{after_same, number_again, digit_again, decimal_passes, hex_passes, bytes_again}
use Rattle.bus_trace.specs.LineSet.{LineSet, set_of, number_of}
use Rattle.bus_trace.specs.OfTrace.{IsKind}
use Rattle.bus_trace.specs.declared.Kind.{Kind}
use Rattle.bus_trace.specs.declared.Kind.TheVariants.{Drives, Fault}
use Rattle.bus_trace.specs.declared.Row.{Row}
use Rattle.bus_trace.proofs.Sets.{number_of-lt, set_back}
use Rattle.trace_text.specs.RowText.{lines_text, kind_text, row_text}
use Rattle.trace_text.specs.Readable.{FitsBus, IsTraceRow}
use Rattle.trace_text.specs.Lines.{kind_at, row_at, end_at, value_of}
use Rattle.trace_text.specs.Pieces.{is_inner}

-- ---- the lines that a row drives

-- the first of some bytes
abbrev head_of : List ℕ → ℕ
head_of [] = 0
head_of (b ∷ bytes) = b

digit_passes : (d : ℕ) → d < 16 → is_hex (hex_digit d) ≡ true
digit_passes d lt =
    let low : d % 16 ≡ d = omega arith in
    let both : (is_hex (hex_digit (d / 16)) && (is_hex (hex_digit (d % 16)) && true)) ≡ true = hex_passes
    (d ∷ []) (omega arith, tt) in
    ap (λ (x : ℕ). is_hex (hex_digit x)) (sym low)
    ∙ second (is_hex (hex_digit (d / 16))) (is_hex (hex_digit (d % 16))) both
  where
    second : (a b : Bool) → (a && (b && true)) ≡ true → b ≡ true
    second true true e = refl
    second true false e = absurd cc
    second false b e = absurd cc

digit_value : (d : ℕ) → d < 16 → hex_value (hex_digit d) ≡ d
digit_value d lt =
    let high : d / 16 ≡ 0 = omega arith in
    let low : d % 16 ≡ d = omega arith in
    let pair : hex_value (hex_digit (d / 16)) * 16 + hex_value (hex_digit (d % 16)) ≡ d = ap head_of
    (bytes_again (d ∷ []) (omega arith, tt)) in
    let zero_digit : hex_value (hex_digit (d / 16)) ≡ 0 = ap (λ (x : ℕ). hex_value (hex_digit x)) high in
    let digit : hex_value (hex_digit (d % 16)) ≡ hex_value (hex_digit d) = ap
    (λ (x : ℕ). hex_value (hex_digit x)) low in
    omega arith

value_again : (n : ℕ) → n < 2 ^ 18
    → value_of (hex_digit (n / 65536)) (hex_digit (n / 4096 % 16)) (hex_digit (n / 256 % 16)) (hex_digit (n / 16 % 16))
    (hex_digit (n % 16)) ≡ n
value_again n lt = rw (
  digit_value (n / 65536) (omega arith),
  digit_value (n / 4096 % 16) (omega arith),
  digit_value (n / 256 % 16) (omega arith),
  digit_value (n / 16 % 16) (omega arith),
  digit_value (n % 16) (omega arith),
) (omega arith)

lines_again : (n : ℕ) → n < 2 ^ 18 → kind_at (lines_text n) ≡ Some (Drives (set_of n))
lines_again n lt = rw (
  digit_passes (n / 65536) (omega arith),
  digit_passes (n / 4096 % 16) (omega arith),
  digit_passes (n / 256 % 16) (omega arith),
  digit_passes (n / 16 % 16) (omega arith),
  digit_passes (n % 16) (omega arith),
  value_again n lt,
  lt-ltb n 0x40000 (omega arith),
) refl

-- the number of a bit is one digit
pub one_digit : (bit : ℕ) → bit ≤ 8 → decimal bit ≡ (48 + bit) ∷ []
unfolding digits
one_digit zero h = refl
one_digit (suc zero) h = refl
one_digit (suc (suc zero)) h = refl
one_digit (suc (suc (suc zero))) h = refl
one_digit (suc (suc (suc (suc zero)))) h = refl
one_digit (suc (suc (suc (suc (suc zero))))) h = refl
one_digit (suc (suc (suc (suc (suc (suc zero)))))) h = refl
one_digit (suc (suc (suc (suc (suc (suc (suc zero))))))) h = refl
one_digit (suc (suc (suc (suc (suc (suc (suc (suc zero)))))))) h = refl
one_digit (suc (suc (suc (suc (suc (suc (suc (suc (suc bit))))))))) h = absurd (omega arith)

fault_again : (bit : ℕ) → bit ≤ 8 → kind_at (102 ∷ (48 + bit) ∷ []) ≡ Some (Fault bit)
fault_again bit h =
    let low : nat_le 48 (48 + bit) ≡ true = grind (arith, nat_tests) in
    let high : nat_le (48 + bit) 56 ≡ true = grind (arith, nat_tests) in
    let value : (48 + bit) - 48 ≡ bit = omega arith in
    rw (low, high, value) refl

kind_again : (k : Kind) → IsKind k → FitsBus k → kind_at (kind_text k) ≡ Some k
kind_again (Drives lines) h fits = lines_again (number_of lines) (number_of-lt lines fits)
    ∙ ap (λ (s : LineSet). Some (Drives s)) (set_back lines fits)
kind_again (Fault bit) h fits = ap (λ (l : List ℕ). kind_at (102 ∷ l)) (one_digit bit h) ∙ fault_again bit h

-- ---- whole lines

-- a row's line without its line feed
abbrev pub row_line : Row → List ℕ
row_line row = decimal row.time ++ 32 ∷ (48 + row.dev) ∷ 32 ∷ kind_text row.kind

pub row_text-line : (row : Row) → row_text row ≡ row_line row ++ 10 ∷ []
row_text-line row = ap (λ (l : List ℕ). l ++ 10 ∷ [])
    (append_assoc (decimal row.time) (32 ∷ (48 + row.dev) ∷ 32 ∷ []) (kind_text row.kind))

pub row_again : (row : Row) → IsTraceRow row → row_at (row_line row) ≡ Some row
unfolding row_at
row_again row h =
    let time = h.time in
    rw (
      number_again row.time (32 ∷ (48 + row.dev) ∷ 32 ∷ kind_text row.kind) (omega arith) refl,
      lt-ltb row.time (2 ^ 63) time,
      after_same (codes " ") ((48 + row.dev) ∷ 32 ∷ kind_text row.kind),
      digit_again row.dev (32 ∷ kind_text row.kind) h.named.device,
      after_same (codes " ") (kind_text row.kind),
      kind_again row.kind h.named.kind h.lines,
    ) refl

-- the line of the end without its line feed
abbrev pub end_line : ℕ → List ℕ
end_line end = codes "end " ++ decimal end

pub end_again : (end : ℕ) → end < 2 ^ 63 → end_at (end_line end) ≡ Some end
unfolding end_at
end_again end lt =
    let number : number_at (decimal end) ≡ Some (Some end, []) = ap number_at (sym (append-nil (decimal end)))
    ∙ number_again end [] (omega arith) refl in
    rw (after_same (codes "end ") (decimal end), number, lt-ltb end (2 ^ 63) lt) refl

pub end_no_row : (end : ℕ) → row_at (end_line end) ≡ None
unfolding row_at number_at
end_no_row end = refl

-- ---- no line holds a line feed

all_inner : (p : ℕ → Bool) → ((b : ℕ) → p b ≡ true → is_inner b ≡ true) → (bytes : List ℕ) → list_all p bytes ≡ true
    → list_all is_inner bytes ≡ true
all_inner p inner [] h = refl
all_inner p inner (b ∷ bytes) h = step (p b) refl h (all_inner p inner bytes) where
  step : (q : Bool) → p b ≡ q → (q && list_all p bytes) ≡ true
      → (list_all p bytes ≡ true → list_all is_inner bytes ≡ true) → list_all is_inner (b ∷ bytes) ≡ true
  step true e more ih = rw (inner b e, ih more) refl
  step false e more ih = absurd cc

pub decimal_inner : (n : ℕ) → n < 2 ^ 64 → list_all is_inner (decimal n) ≡ true
decimal_inner n lt = all_inner is_ascii_digit (λ b e. grind (arith, nat_tests)) (decimal n) (decimal_passes n lt)

pub digit_inner : (b : ℕ) → is_hex b ≡ true → is_inner b ≡ true
digit_inner b e = grind (arith, nat_tests)

hex_inner : (d : ℕ) → d < 16 → is_inner (hex_digit d) ≡ true
hex_inner d lt = digit_inner (hex_digit d) (digit_passes d lt)

lines_inner : (n : ℕ) → n < 2 ^ 18 → list_all is_inner (lines_text n) ≡ true
lines_inner n lt = rw (
  hex_inner (n / 65536) (omega arith),
  hex_inner (n / 4096 % 16) (omega arith),
  hex_inner (n / 256 % 16) (omega arith),
  hex_inner (n / 16 % 16) (omega arith),
  hex_inner (n % 16) (omega arith),
) refl

printed_inner : (d : ℕ) → is_inner (48 + d) ≡ true
printed_inner d = grind (arith, nat_tests)

kind_inner : (k : Kind) → IsKind k → FitsBus k → list_all is_inner (kind_text k) ≡ true
kind_inner (Drives lines) h fits = lines_inner (number_of lines) (number_of-lt lines fits)
kind_inner (Fault bit) h fits = decimal_inner bit (omega (arith, h))

pub row_inner : (row : Row) → IsTraceRow row → list_all is_inner (row_line row) ≡ true
row_inner row h =
    let time = h.time in
    list_all-append is_inner (decimal row.time) (32 ∷ (48 + row.dev) ∷ 32 ∷ kind_text row.kind)
    ∙ rw (decimal_inner row.time (omega arith), printed_inner row.dev, kind_inner row.kind h.named.kind h.lines) refl

pub end_inner : (end : ℕ) → end < 2 ^ 63 → list_all is_inner (end_line end) ≡ true
end_inner end lt = decimal_inner end (omega arith)
