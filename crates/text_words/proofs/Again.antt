-- What is spelled is read again.
use Rattle.std.proofs.Common.{◌≡◌, ℕ, zero, suc, ◌+◌, ◌-◌, ◌/◌, ◌%◌, ◌^◌, ◌<◌, Bool, true, false, ◌&&◌, ltb, List, []}
use Rattle.std.proofs.Common.{◌∷◌, ◌++◌, length, get_or, Some, refl, ap, ◌∙◌, arith, rules, inl, inr}
use Rattle.std.specs.Prelude.{nat_eq, ◌==◌, decimal}
use Rattle.std.specs.List.{prefix_len, list_all}
use Rattle.std.specs.Cmp.Lexicographic.{pointwise}
use Rattle.std.specs.Char.{is_ascii_digit}
use Rattle.std.proofs.lemmas.Bool.{cases_lt, lt-ltb, le-ltb}
use Rattle.std.proofs.lemmas.Bool.Decides.{nat_tests}
use Rattle.std.proofs.lemmas.List.{take_at, drop_at}
use Rattle.std.proofs.lemmas.Str.Parse.{IsNumeralModel, numerals_by_fold}
use Rattle.std.proofs.lemmas.Fmt.{digits_decimal, digits_value-decimal, decimal_nonempty, first_decimal, decimal_digit}
use Rattle.text_words.specs.Words.{after, number_at, is_digit, digit_at, hex_digits_at, hex_array_at, value_after}
use Rattle.text_words.specs.Words.{is_decimal, is_hex, hex_value, bytes_of}
use Rattle.text_words.specs.Spelling.{hex_digit, hex_text, digit_text, AreBytes, EndsNumber, EndsHex}

same_words : (w : List ℕ) → pointwise nat_eq w w ≡ true
same_words [] = refl
same_words (x ∷ xs) = let h : nat_eq x x ≡ true = grind (arith, nat_tests) in rw (h, same_words xs) refl

pub after_same : (w rest : List ℕ) → after w (w ++ rest) ≡ Some rest
unfolding after
after_same w rest = rw (take_at w rest (length w) refl, drop_at w rest (length w) refl, same_words w) refl

run_step : (p : ℕ → Bool) (x : ℕ) (xs rest : List ℕ) (q : Bool) → p x ≡ q
    → (list_all p xs ≡ true → prefix_len p (xs ++ rest) ≡ length xs) → (q && list_all p xs) ≡ true
    → prefix_len p (x ∷ (xs ++ rest)) ≡ suc (length xs)
run_step p x xs rest true e ih h = let more = ih h in rw (e, more) (omega arith)
run_step p x xs rest false e ih h = absurd cc

-- the elements that pass, up to one that does not
pub run_of : (p : ℕ → Bool) (xs rest : List ℕ) → list_all p xs ≡ true → prefix_len p rest ≡ 0
    → prefix_len p (xs ++ rest) ≡ length xs
run_of p [] rest all stop = stop
run_of p (x ∷ xs) rest all stop = run_step p x xs rest (p x) refl (λ h. run_of p xs rest h stop) all

-- ---- decimal numbers

abbrev pub AllDecimal : List ℕ → Type 0
AllDecimal ds = list_all is_ascii_digit ds ≡ true

pub own : IsNumeralModel AllDecimal (value_after 0)
own = numerals_by_fold AllDecimal (search rules) value_after (search rules)

pub decimal_passes : (n : ℕ) → n < 2 ^ 64 → list_all is_ascii_digit (decimal n) ≡ true
decimal_passes n lt = digits_decimal own n lt

is_decimal-decimal : (n : ℕ) → n < 2 ^ 64 → is_decimal (decimal n) ≡ true
is_decimal-decimal zero lt = rw (decimal_digit 0 (omega arith)) refl
is_decimal-decimal (suc n) lt =
    let some : 0 < length (decimal (suc n)) = decimal_nonempty (suc n) lt in
    let first : 48 < get_or (decimal (suc n)) 0 0 = first_decimal (suc n) (omega arith) lt in
    grind (arith, nat_tests)

pub number_again : (n : ℕ) (rest : List ℕ) → n < 2 ^ 64 → EndsNumber rest
    → number_at (decimal n ++ rest) ≡ Some (Some n, rest)
unfolding number_at
number_again n rest lt stop =
    let value : value_after 0 (decimal n) ≡ n = digits_value-decimal own n lt in
    rw (
      run_of is_ascii_digit (decimal n) rest (decimal_passes n lt) stop,
      take_at (decimal n) rest (length (decimal n)) refl,
      drop_at (decimal n) rest (length (decimal n)) refl,
      is_decimal-decimal n lt,
      value,
      lt-ltb n (2 ^ 64) lt,
    ) refl

-- ---- the digits of devices

pub digit_again : (d : ℕ) (rest : List ℕ) → d < 8 → digit_at (digit_text d ++ rest) ≡ Some (d, rest)
digit_again d rest lt =
    let passes : is_digit (48 + d) ≡ true = grind (arith, nat_tests) in
    let value : (48 + d) - 48 ≡ d = omega arith in
    rw (passes, value) refl

-- ---- bytes

hex_digit-is : (d : ℕ) → d < 16 → (is_hex (hex_digit d) ≡ true) × (hex_value (hex_digit d) ≡ d)
hex_digit-is d lt =
    elim (cases_lt d 10) [
      | inl low ↦
          let e : hex_digit d ≡ 48 + d = rw (lt-ltb d 10 low) refl in
          let hex : is_hex (48 + d) ≡ true = grind (arith, nat_tests) in
          let value : hex_value (48 + d) ≡ d = let t : ltb (48 + d) 97 ≡ true = lt-ltb _ _ (omega arith) in
          rw t (omega arith) in
          (ap is_hex e ∙ hex, ap hex_value e ∙ value)
      | inr high ↦
          let e : hex_digit d ≡ 87 + d = rw (le-ltb d 10 high) refl in
          let hex : is_hex (87 + d) ≡ true = grind (arith, nat_tests) in
          let value : hex_value (87 + d) ≡ d = let t : ltb (87 + d) 97 ≡ false = le-ltb _ _ (omega arith) in
          rw t (omega arith) in
          (ap is_hex e ∙ hex, ap hex_value e ∙ value)
    ]

pub hex_passes : (bytes : List ℕ) → AreBytes bytes → list_all is_hex (hex_text bytes) ≡ true
hex_passes [] h = refl
hex_passes (b ∷ bs) h =
    let high = (hex_digit-is (b / 16) (omega arith)).0 in
    let low = (hex_digit-is (b % 16) (omega arith)).0 in
    rw (high, low) (hex_passes bs h.1)

pub bytes_again : (bytes : List ℕ) → AreBytes bytes → bytes_of (hex_text bytes) ≡ bytes
bytes_again [] h = refl
bytes_again (b ∷ bs) h =
    let high = (hex_digit-is (b / 16) (omega arith)).1 in
    let low = (hex_digit-is (b % 16) (omega arith)).1 in
    rw (high, low, bytes_again bs h.1) (ap (λ (x : ℕ). x ∷ bs) (omega arith))

pub length-hex_text : (bytes : List ℕ) → length (hex_text bytes) ≡ length bytes + length bytes
length-hex_text [] = refl
length-hex_text (b ∷ bs) = omega (arith, length-hex_text bs)

pub hex_again : (bytes rest : List ℕ) → AreBytes bytes → 0 < length bytes → EndsHex rest
    → hex_digits_at (hex_text bytes ++ rest) ≡ Some (hex_text bytes, rest)
unfolding hex_digits_at
hex_again bytes rest h some stop =
    let even = length-hex_text bytes in
    let not_none : (length (hex_text bytes) == 0) ≡ false = grind (arith, nat_tests) in
    let not_odd : (length (hex_text bytes) % 2 == 1) ≡ false = grind (arith, nat_tests) in
    rw (
      run_of is_hex (hex_text bytes) rest (hex_passes bytes h) stop,
      not_none,
      not_odd,
      take_at (hex_text bytes) rest (length (hex_text bytes)) refl,
      drop_at (hex_text bytes) rest (length (hex_text bytes)) refl,
    ) refl

pub hex_array_again : (n : ℕ) (bytes rest : List ℕ) → AreBytes bytes → length bytes ≡ n → 0 < n → EndsHex rest
    → hex_array_at n (hex_text bytes ++ rest) ≡ Some (bytes, rest)
unfolding hex_array_at
hex_array_again n bytes rest h len some stop =
    let even = length-hex_text bytes in
    let count : (length (hex_text bytes) / 2 == n) ≡ true = grind (arith, nat_tests) in
    rw (hex_again bytes rest h (omega arith) stop, count, bytes_again bytes h) refl
