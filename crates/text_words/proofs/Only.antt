-- What is read was spelled so.
use Rattle.std.proofs.Common.{◌≡◌, ℕ, suc, ◌+◌, ◌-◌, ◌*◌, ◌/◌, ◌%◌, ◌^◌, ◌<◌, ◌≤◌, Bool, true, false, cond, ◌&&◌, ◌||◌}
use Rattle.std.proofs.Common.{ltb, List, [], ◌∷◌, ◌++◌, length, get_or, take, drop, Option, Some, None, refl, sym, ap}
use Rattle.std.proofs.Common.{subst, ◌∙◌, arith, inl, inr}
use Rattle.std.specs.Prelude.{nat_eq, ◌==◌, decimal}
use Rattle.std.specs.List.{prefix_len, list_all}
use Rattle.std.specs.Cmp.Lexicographic.{pointwise, same_text}
use Rattle.std.specs.Char.{is_ascii_digit}
use Rattle.std.proofs.lemmas.Bool.{cases_lt, ltb-true, lt-ltb, le-ltb}
use Rattle.std.proofs.lemmas.Bool.Decides.{nat_tests}
use Rattle.std.proofs.lemmas.List.{take-append-drop}
use Rattle.std.proofs.lemmas.List.Folds.{length-prefix_len}
use Rattle.std.proofs.lemmas.Fmt.{decimal-digits_value}
use Rattle.text_words.specs.Words.{Number, ◌>>=◌, after, number_at, is_digit, digit_at, hex_digits_at, hex_array_at}
use Rattle.text_words.specs.Words.{of_count, small, value_after, is_decimal, is_hex, hex_value, bytes_of, is_whole}
use Rattle.text_words.specs.Spelling.{hex_digit, hex_text, digit_text, AreBytes}
use Rattle.text_words.proofs.Again.{own, AllDecimal, length-hex_text}

-- a `do` chain that gave something: its first step did, and so did the rest
pub bind_some : {A B : Type 0} (o : Option A) (f : A → Option B) (y : B) → (o >>= f) ≡ Some y
    → (x : A) × (o ≡ Some x) × (f x ≡ Some y)
bind_some None f y e = absurd cc
bind_some (Some x) f y e = (x, refl, e)

-- a choice that gave something took that side
pub cond_some : {A : Type 0} (t : Bool) (x y : A) → cond t (Some x) None ≡ Some y → (t ≡ true) × (x ≡ y)
cond_some true x y e = (refl, cc)
cond_some false x y e = absurd cc

pub cond_none : {A : Type 0} (t : Bool) (x y : A) → cond t None (Some x) ≡ Some y → (t ≡ false) × (x ≡ y)
cond_none true x y e = absurd cc
cond_none false x y e = (refl, cc)

or_right : (a b : Bool) → (a || b) ≡ false → b ≡ false
or_right true b e = absurd cc
or_right false b e = e

pub front_passes : (p : ℕ → Bool) (xs : List ℕ) → list_all p (take (prefix_len p xs) xs) ≡ true
front_passes p [] = refl
front_passes p (x ∷ xs) = step (p x) refl (front_passes p xs) where
  step : (q : Bool) → p x ≡ q → list_all p (take (prefix_len p xs) xs) ≡ true
      → list_all p (take (cond q (1 + prefix_len p xs) 0) (x ∷ xs)) ≡ true
  step true e ih = let one : 1 + prefix_len p xs ≡ suc (prefix_len p xs) = omega arith in rw (one, e) ih
  step false e ih = refl

pub after_only : (w bytes rest : List ℕ) → after w bytes ≡ Some rest → bytes ≡ w ++ rest
unfolding after
after_only w bytes rest e =
    let p = cond_some (pointwise nat_eq (take (length w) bytes) w) (drop (length w) bytes) rest e in
    let front : take (length w) bytes ≡ w = same_text (take (length w) bytes) w (sym p.0) in
    sym (take-append-drop (length w) bytes) ∙ (λ i. front i ++ p.1 i)

digits_of : (ds : List ℕ) → AllDecimal ds → is_decimal ds ≡ true → value_after 0 ds < 2 ^ 64
    → decimal (value_after 0 ds) ≡ ds
digits_of ds all dec low =
    let some : 0 < length ds = grind (arith, nat_tests) in
    let one : get_or ds 0 0 ≡ 48 → length ds ≡ 1 = λ first. grind (arith, nat_tests) in
    decimal-digits_value own ds all some one low

pub number_only : (bytes : List ℕ) (n : ℕ) (rest : List ℕ) → number_at bytes ≡ Some (Some n, rest)
    → (n < 2 ^ 64) × (bytes ≡ decimal n ++ rest)
unfolding number_at
number_only bytes n rest e =
    let k : ℕ = prefix_len is_ascii_digit bytes in
    let p = cond_some (is_decimal (take k bytes))
    (small (value_after 0 (take k bytes)), drop k bytes) (Some n, rest) e in
    let v : small (value_after 0 (take k bytes)) ≡ Some n = ap (λ (y : Number × List ℕ). y.0) p.1 in
    let r : drop k bytes ≡ rest = ap (λ (y : Number × List ℕ). y.1) p.1 in
    let q = cond_some (ltb (value_after 0 (take k bytes)) (2 ^ 64)) (value_after 0 (take k bytes)) n v in
    let low : value_after 0 (take k bytes) < 2 ^ 64 = ltb-true _ _ q.0 in
    let text : decimal (value_after 0 (take k bytes)) ≡ take k bytes = digits_of (take k bytes)
    (front_passes is_ascii_digit bytes) p.0 low in (
      let P : ℕ → Type 0 = λ m. m < 2 ^ 64 in
          subst P q.1 low,
      sym (take-append-drop k bytes) ∙ (λ i. (sym text ∙ ap decimal q.1) i ++ r i),
    )

pub whole_only : (bytes : List ℕ) → is_whole bytes ≡ Some tt → bytes ≡ []
whole_only [] e = refl
whole_only (b ∷ bytes) e = absurd cc

-- ---- the digits of devices

pub digit_only : (bytes : List ℕ) (d : ℕ) (rest : List ℕ) → digit_at bytes ≡ Some (d, rest)
    → (d < 8) × (bytes ≡ digit_text d ++ rest)
digit_only [] d rest e = absurd cc
digit_only (b ∷ bytes) d rest e =
    let p = cond_some (is_digit b) (b - 48, bytes) (d, rest) e in
    let v : b - 48 ≡ d = ap (λ (y : ℕ × List ℕ). y.0) p.1 in
    let r : bytes ≡ rest = ap (λ (y : ℕ × List ℕ). y.1) p.1 in
    let passes : is_digit b ≡ true = p.0 in
    let low : 48 ≤ b = grind (arith, nat_tests) in
    let high : b ≤ 55 = grind (arith, nat_tests) in
    let first : b ≡ 48 + d = omega arith in
    (omega arith, λ i. first i ∷ r i)

-- ---- bytes

-- a digit's value, and its digit
hex_digit_only : (c : ℕ) → is_hex c ≡ true → (hex_value c < 16) × (hex_digit (hex_value c) ≡ c)
hex_digit_only c h =
    elim (cases_lt c 97) [
      | inl low ↦
          let t : ltb c 97 ≡ true = lt-ltb c 97 low in
          let value : hex_value c ≡ c - 48 = let a : is_ascii_digit c ≡ true = grind (arith, nat_tests) in
          let b : c ≤ 57 = grind (arith, nat_tests) in rw t (omega arith) in
          let at_least : 48 ≤ c = grind (arith, nat_tests) in
          let at_most : c ≤ 57 = grind (arith, nat_tests) in
          let d : hex_digit (c - 48) ≡ c = rw (lt-ltb (c - 48) 10 (omega arith)) (omega arith) in
          (omega arith, ap hex_digit value ∙ d)
      | inr high ↦
          let t : ltb c 97 ≡ false = le-ltb c 97 high in
          let at_most : c ≤ 102 = grind (arith, nat_tests) in
          let value : hex_value c ≡ c - 87 = rw t (omega arith) in
          let d : hex_digit (c - 87) ≡ c = rw (le-ltb (c - 87) 10 (omega arith)) (omega arith) in
          (omega arith, ap hex_digit value ∙ d)
    ]

-- these digits are the spelling of the bytes that they spell
pub record IsHexOf (ds : List ℕ) : Type 0 where
  pub fits : AreBytes (bytes_of ds)
  pub text : hex_text (bytes_of ds) ≡ ds

odd_next : (n : ℕ) → (suc (suc n) % 2 == 1) ≡ false → (n % 2 == 1) ≡ false
odd_next n e = grind (arith, nat_tests)

hex_bytes : (ds : List ℕ) → list_all is_hex ds ≡ true → (length ds % 2 == 1) ≡ false → IsHexOf ds
hex_bytes [] h e = record { fits = tt; text = refl }
hex_bytes (a ∷ []) h e = absurd cc
hex_bytes (a ∷ b ∷ ds) h e = step (is_hex a) refl (is_hex b) refl h (λ t. hex_bytes ds t (odd_next (length ds) e)) where
  step : (p : Bool) → is_hex a ≡ p → (q : Bool) → is_hex b ≡ q → (p && (q && list_all is_hex ds)) ≡ true
      → (list_all is_hex ds ≡ true → IsHexOf ds) → IsHexOf (a ∷ b ∷ ds)
  step false p q e h ih = absurd cc
  step true p false e h ih = absurd cc
  step true p true q h ih =
      let rest = ih h in
      let x = hex_digit_only a p in
      let y = hex_digit_only b q in
      let lx = x.0 in
      let ly = y.0 in
      let high : (hex_value a * 16 + hex_value b) / 16 ≡ hex_value a = omega arith in
      let low : (hex_value a * 16 + hex_value b) % 16 ≡ hex_value b = omega arith in
      let c : hex_digit ((hex_value a * 16 + hex_value b) / 16) ≡ a = ap hex_digit high ∙ x.1 in
      let d : hex_digit ((hex_value a * 16 + hex_value b) % 16) ≡ b = ap hex_digit low ∙ y.1 in
      record { fits = (omega arith, rest.fits); text = λ i. c i ∷ d i ∷ rest.text i }

pub hex_only : (bytes digits rest : List ℕ) → hex_digits_at bytes ≡ Some (digits, rest)
    → (bytes ≡ digits ++ rest) × AreBytes (bytes_of digits) × (digits ≡ hex_text (bytes_of digits))
unfolding hex_digits_at
hex_only bytes digits rest e =
    let k : ℕ = prefix_len is_hex bytes in
    let p = cond_none (k == 0 || k % 2 == 1) (take k bytes, drop k bytes) (digits, rest) e in
    let test = p.0 in
    let even : (k % 2 == 1) ≡ false = or_right (k == 0) (k % 2 == 1) test in
    let len : length (take k bytes) ≡ k = length-prefix_len is_hex bytes in
    let front : IsHexOf (take k bytes) = hex_bytes (take k bytes)
    (front_passes is_hex bytes) (ap (λ (n : ℕ). n % 2 == 1) len ∙ even) in
    let whole : IsHexOf digits = subst IsHexOf (λ i. (p.1 i).0) front in
    (sym (take-append-drop k bytes) ∙ (λ i. (p.1 i).0 ++ (p.1 i).1), whole.fits, sym whole.text)

pub hex_array_only : (n : ℕ) (text bytes rest : List ℕ) → hex_array_at n text ≡ Some (bytes, rest)
    → (text ≡ hex_text bytes ++ rest) × AreBytes bytes × (length bytes ≡ n)
unfolding hex_array_at
hex_array_only n text bytes rest e =
    let a = bind_some (hex_digits_at text) (of_count n) (bytes, rest) e in
    let digits : List ℕ = (a.0).0 in
    let p = cond_some (length (a.0).0 / 2 == n) (bytes_of (a.0).0, (a.0).1) (bytes, rest) a.2 in
    let hex = hex_only text (a.0).0 (a.0).1 a.1 in
    let spelled : (a.0).0 ≡ hex_text (bytes_of (a.0).0) = hex.2 in
    let len : length (a.0).0 ≡ length (bytes_of (a.0).0) + length (bytes_of (a.0).0) = ap length spelled
    ∙ length-hex_text (bytes_of (a.0).0) in
    let count : length (a.0).0 / 2 ≡ n = let test = p.0 in grind (arith, nat_tests) in
    let whole : length (bytes_of (a.0).0) ≡ n = omega arith in (
      hex.0 ∙ (λ i. (spelled ∙ (λ j. hex_text (p.1 j).0)) i ++ (p.1 i).1),
      subst AreBytes (λ i. (p.1 i).0) hex.1,
      ap length (λ i. sym (λ j. (p.1 j).0) i) ∙ whole,
    )
