-- Tokens that were written are read again.
use Rattle.std.proofs.Common.{◌≡◌, ℕ, zero, suc, ◌+◌, ◌-◌, ◌*◌, ◌/◌, ◌%◌, ◌^◌, ◌<◌, ◌≤◌, Bool, true, false, ◌&&◌, List}
use Rattle.std.proofs.Common.{[], ◌∷◌, length, Some, Option, refl, ap, ◌∙◌, arith}
use Rattle.std.specs.Prelude.{◌==◌, nat_lt, option_map, decimal}
use Rattle.std.specs.List.{list_all}
use Rattle.std.specs.Char.{is_ascii_digit}
use Rattle.std.proofs.lemmas.Bool.{lt-ltb, and_parts}
use Rattle.std.proofs.lemmas.Bool.Decides.{nat_tests}
use Rattle.std.proofs.lemmas.Fmt.{digits_value-decimal, decimal_nonempty}
use Rattle.text_words.specs.Words.{value_after}
use Rattle.text_words.proofs.Again.{own, decimal_passes}
use Rattle.bus_trace.specs.LineSet.{set_of}
use Rattle.vcd_text.specs.DumpText.{bit_text, bits_text}
use Rattle.vcd_text.specs.Tokens.{is_printable, is_bit, is_state, are_states, more_decimal, decimal_after, decimal_of}
use Rattle.vcd_text.specs.Tokens.{more_bits, bits_after, bits_of, lines_of}
use Rattle.text_words.proofs.Digits.{value_grows}

-- ---- decimal numbers

more_again : (n d : ℕ) → is_ascii_digit d ≡ true → n * 10 + (d - 48) < 2 ^ 64
    → more_decimal (Some n) d ≡ Some (n * 10 + (d - 48))
more_again n d digit small = rw (digit, lt-ltb (n * 10 + (d - 48)) (2 ^ 64) small) refl

decimal_from : (ds : List ℕ) (n : ℕ) → list_all is_ascii_digit ds ≡ true → value_after n ds < 2 ^ 64
    → decimal_after (Some n) ds ≡ Some (value_after n ds)
decimal_from [] n all small = refl
decimal_from (d ∷ ds) n all small =
    let parts = and_parts (is_ascii_digit d) (list_all is_ascii_digit ds) all in
    let grows = value_grows (n * 10 + (d - 48)) ds in
    ap (λ (o : Option ℕ). decimal_after o ds) (more_again n d parts.0 (omega (arith, grows, small)))
    ∙ decimal_from ds (n * 10 + (d - 48)) parts.1 small

pub decimal_again : (n : ℕ) → n < 2 ^ 64 → decimal_of (decimal n) ≡ Some n
decimal_again n lt =
    let value : value_after 0 (decimal n) ≡ n = digits_value-decimal own n lt in
    let some : 0 < length (decimal n) = decimal_nonempty n lt in
    let test : (length (decimal n) == 0) ≡ false = grind (arith, nat_tests) in
    rw test (decimal_from (decimal n) 0 (decimal_passes n lt) (omega (arith, value, lt)) ∙ ap Some value)

-- a decimal digit may stand in a token
printable_digits : (ds : List ℕ) → list_all is_ascii_digit ds ≡ true → list_all is_printable ds ≡ true
printable_digits [] all = refl
printable_digits (d ∷ ds) all =
    let parts = and_parts (is_ascii_digit d) (list_all is_ascii_digit ds) all in
    let one : is_printable d ≡ true = let digit = parts.0 in grind (arith, nat_tests) in
    rw (one, printable_digits ds parts.1) refl

pub decimal_printable : (n : ℕ) → n < 2 ^ 64 → list_all is_printable (decimal n) ≡ true
decimal_printable n lt = printable_digits (decimal n) (decimal_passes n lt)

-- ---- binary digits

bit_small : (x : ℕ) → x < 2 → (is_bit (48 + x) ≡ true) × (is_state (48 + x) ≡ true) × (is_printable (48 + x) ≡ true)
bit_small zero h = (refl, refl, refl)
bit_small (suc zero) h = (refl, refl, refl)
bit_small (suc (suc x)) h = absurd (omega arith)

pub is_bit_text : (n w : ℕ) → is_bit (bit_text n w) ≡ true
is_bit_text n w = (bit_small (n / w % 2) (omega arith)).0

pub is_state_text : (n w : ℕ) → is_state (bit_text n w) ≡ true
is_state_text n w = (bit_small (n / w % 2) (omega arith)).1

pub is_printable_text : (n w : ℕ) → is_printable (bit_text n w) ≡ true
is_printable_text n w = (bit_small (n / w % 2) (omega arith)).2

bits_more : (n w high next : ℕ) → high * 2 + n / w % 2 ≡ next → next < 2 ^ 18
    → more_bits (Some high) (bit_text n w) ≡ Some next
bits_more n w high next is small =
    let value : high * 2 + (bit_text n w - 48) ≡ next = omega (arith, is) in
    let test : nat_lt (high * 2 + (bit_text n w - 48)) (2 ^ 18) ≡ true = lt-ltb
    (high * 2 + (bit_text n w - 48)) (2 ^ 18) (omega (arith, is, small)) in
    rw (is_bit_text n w, test) (ap Some value)

-- the digits so far are the number without those to come
bits_next : (n w high next : ℕ) (ds : List ℕ) → high * 2 + n / w % 2 ≡ next → next < 2 ^ 18
    → bits_after (Some high) (bit_text n w ∷ ds) ≡ bits_after (Some next) ds
bits_next n w high next ds is small = ap (λ (o : Option ℕ). bits_after o ds) (bits_more n w high next is small)

pub bits_again : (n : ℕ) → n < 2 ^ 18 → bits_of (bits_text n) ≡ Some n
bits_again n lt = bits_next n 131072 0 (n / 131072)
    (bit_text n 65536 ∷ bit_text n 32768 ∷ bit_text n 16384 ∷ bit_text n 8192 ∷ bit_text n 4096 ∷ bit_text n 2048
    ∷ bit_text n 1024 ∷ bit_text n 512 ∷ bit_text n 256 ∷ bit_text n 128 ∷ bit_text n 64 ∷ bit_text n 32 ∷ bit_text n 16
    ∷ bit_text n 8 ∷ bit_text n 4 ∷ bit_text n 2 ∷ bit_text n 1 ∷ []) (omega (arith, lt)) (omega (arith, lt))
    ∙ bits_next n 65536 (n / 131072) (n / 65536)
    (bit_text n 32768 ∷ bit_text n 16384 ∷ bit_text n 8192 ∷ bit_text n 4096 ∷ bit_text n 2048 ∷ bit_text n 1024
    ∷ bit_text n 512 ∷ bit_text n 256 ∷ bit_text n 128 ∷ bit_text n 64 ∷ bit_text n 32 ∷ bit_text n 16
    ∷ bit_text n 8 ∷ bit_text n 4 ∷ bit_text n 2 ∷ bit_text n 1 ∷ []) (omega (arith, lt)) (omega (arith, lt))
    ∙ bits_next n 32768 (n / 65536) (n / 32768) (bit_text n 16384 ∷ bit_text n 8192 ∷ bit_text n 4096 ∷ bit_text n 2048
    ∷ bit_text n 1024 ∷ bit_text n 512 ∷ bit_text n 256 ∷ bit_text n 128 ∷ bit_text n 64 ∷ bit_text n 32 ∷ bit_text n 16
    ∷ bit_text n 8 ∷ bit_text n 4 ∷ bit_text n 2 ∷ bit_text n 1 ∷ []) (omega (arith, lt)) (omega (arith, lt))
    ∙ bits_next n 16384 (n / 32768) (n / 16384) (bit_text n 8192 ∷ bit_text n 4096 ∷ bit_text n 2048 ∷ bit_text n 1024
    ∷ bit_text n 512 ∷ bit_text n 256 ∷ bit_text n 128 ∷ bit_text n 64 ∷ bit_text n 32 ∷ bit_text n 16
    ∷ bit_text n 8 ∷ bit_text n 4 ∷ bit_text n 2 ∷ bit_text n 1 ∷ []) (omega (arith, lt)) (omega (arith, lt))
    ∙ bits_next n 8192 (n / 16384) (n / 8192) (bit_text n 4096 ∷ bit_text n 2048 ∷ bit_text n 1024
    ∷ bit_text n 512 ∷ bit_text n 256 ∷ bit_text n 128 ∷ bit_text n 64 ∷ bit_text n 32 ∷ bit_text n 16
    ∷ bit_text n 8 ∷ bit_text n 4 ∷ bit_text n 2 ∷ bit_text n 1 ∷ []) (omega (arith, lt)) (omega (arith, lt))
    ∙ bits_next n 4096 (n / 8192) (n / 4096) (bit_text n 2048 ∷ bit_text n 1024 ∷ bit_text n 512
    ∷ bit_text n 256 ∷ bit_text n 128 ∷ bit_text n 64 ∷ bit_text n 32 ∷ bit_text n 16 ∷ bit_text n 8
    ∷ bit_text n 4 ∷ bit_text n 2 ∷ bit_text n 1 ∷ []) (omega (arith, lt)) (omega (arith, lt))
    ∙ bits_next n 2048 (n / 4096) (n / 2048)
    (bit_text n 1024 ∷ bit_text n 512 ∷ bit_text n 256 ∷ bit_text n 128 ∷ bit_text n 64 ∷ bit_text n 32 ∷ bit_text n 16
    ∷ bit_text n 8 ∷ bit_text n 4 ∷ bit_text n 2 ∷ bit_text n 1 ∷ []) (omega (arith, lt)) (omega (arith, lt))
    ∙ bits_next n 1024 (n / 2048) (n / 1024)
    (bit_text n 512 ∷ bit_text n 256 ∷ bit_text n 128 ∷ bit_text n 64 ∷ bit_text n 32 ∷ bit_text n 16
    ∷ bit_text n 8 ∷ bit_text n 4 ∷ bit_text n 2 ∷ bit_text n 1 ∷ []) (omega (arith, lt)) (omega (arith, lt))
    ∙ bits_next n 512 (n / 1024) (n / 512) (bit_text n 256 ∷ bit_text n 128 ∷ bit_text n 64
    ∷ bit_text n 32 ∷ bit_text n 16 ∷ bit_text n 8 ∷ bit_text n 4 ∷ bit_text n 2 ∷ bit_text n 1 ∷ [])
    (omega (arith, lt)) (omega (arith, lt))
    ∙ bits_next n 256 (n / 512) (n / 256) (bit_text n 128 ∷ bit_text n 64 ∷ bit_text n 32 ∷ bit_text n 16
    ∷ bit_text n 8 ∷ bit_text n 4 ∷ bit_text n 2 ∷ bit_text n 1 ∷ []) (omega (arith, lt)) (omega (arith, lt))
    ∙ bits_next n 128 (n / 256) (n / 128) (bit_text n 64 ∷ bit_text n 32 ∷ bit_text n 16 ∷ bit_text n 8
    ∷ bit_text n 4 ∷ bit_text n 2 ∷ bit_text n 1 ∷ []) (omega (arith, lt)) (omega (arith, lt))
    ∙ bits_next n 64 (n / 128) (n / 64) (bit_text n 32 ∷ bit_text n 16 ∷ bit_text n 8
    ∷ bit_text n 4 ∷ bit_text n 2 ∷ bit_text n 1 ∷ []) (omega (arith, lt)) (omega (arith, lt))
    ∙ bits_next n 32 (n / 64) (n / 32) (bit_text n 16 ∷ bit_text n 8 ∷ bit_text n 4 ∷ bit_text n 2 ∷ bit_text n 1 ∷ [])
    (omega (arith, lt)) (omega (arith, lt))
    ∙ bits_next n 16 (n / 32) (n / 16) (bit_text n 8 ∷ bit_text n 4 ∷ bit_text n 2 ∷ bit_text n 1 ∷ [])
    (omega (arith, lt)) (omega (arith, lt))
    ∙ bits_next n 8 (n / 16) (n / 8) (bit_text n 4 ∷ bit_text n 2 ∷ bit_text n 1 ∷ [])
    (omega (arith, lt)) (omega (arith, lt))
    ∙ bits_next n 4 (n / 8) (n / 4) (bit_text n 2 ∷ bit_text n 1 ∷ []) (omega (arith, lt)) (omega (arith, lt))
    ∙ bits_next n 2 (n / 4) (n / 2) (bit_text n 1 ∷ []) (omega (arith, lt)) (omega (arith, lt))
    ∙ bits_next n 1 (n / 2) (n / 1) ([]) (omega (arith, lt)) (omega (arith, lt))
    ∙ ap Some (let one : n / 1 ≡ n = omega arith in one)

pub lines_again : (n : ℕ) → n < 2 ^ 18 → lines_of (bits_text n) ≡ Some (set_of n)
lines_again n lt = ap (λ (o : Option ℕ). option_map set_of o) (bits_again n lt)

pub bits_states : (n : ℕ) → are_states (bits_text n) ≡ true
bits_states n = rw (
  is_state_text n 131072,
  is_state_text n 65536,
  is_state_text n 32768,
  is_state_text n 16384,
  is_state_text n 8192,
  is_state_text n 4096,
  is_state_text n 2048,
  is_state_text n 1024,
  is_state_text n 512,
  is_state_text n 256,
  is_state_text n 128,
  is_state_text n 64,
  is_state_text n 32,
  is_state_text n 16,
  is_state_text n 8,
  is_state_text n 4,
  is_state_text n 2,
  is_state_text n 1,
) refl

pub bits_printable : (n : ℕ) → list_all is_printable (bits_text n) ≡ true
bits_printable n = rw (
  is_printable_text n 131072,
  is_printable_text n 65536,
  is_printable_text n 32768,
  is_printable_text n 16384,
  is_printable_text n 8192,
  is_printable_text n 4096,
  is_printable_text n 2048,
  is_printable_text n 1024,
  is_printable_text n 512,
  is_printable_text n 256,
  is_printable_text n 128,
  is_printable_text n 64,
  is_printable_text n 32,
  is_printable_text n 16,
  is_printable_text n 8,
  is_printable_text n 4,
  is_printable_text n 2,
  is_printable_text n 1,
) refl
