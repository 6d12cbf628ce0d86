-- Five bytes that are no lines.
use Rattle.std.proofs.Common.{◌≡◌, ℕ, ◌<◌, Bool, true, false, ◌&&◌, ltb, [], ◌∷◌, None, refl, arith}
use Rattle.std.proofs.lemmas.Bool.{ltb-true, and_parts}
use Rattle.std.proofs.lemmas.Bool.Decides.{nat_tests}
use Rattle.text_words.specs.Words.{is_hex, hex_value, hex_or_16}
use Rattle.trace_text.specs.Lines.{value_of, kind_at}

value_low : (b : ℕ) → hex_value b < 16
value_low b = grind (arith, nat_tests)

digit_low : (b : ℕ) → is_hex b ≡ true → hex_or_16 b ≡ hex_value b
digit_low b e = rw e refl

abbrev AreLines : ℕ → ℕ → ℕ → ℕ → ℕ → Type 0
AreLines a b c d e =
    (hex_or_16 a < 4) × (hex_or_16 b < 16) × (hex_or_16 c < 16) × (hex_or_16 d < 16) × (hex_or_16 e < 16)

are_lines : (a b c d e : ℕ)
    → (((((is_hex a && is_hex b) && is_hex c) && is_hex d) && is_hex e) && ltb (value_of a b c d e) 0x40000) ≡ true
    → AreLines a b c d e
are_lines a b c d e t =
    let all = and_parts ((((is_hex a && is_hex b) && is_hex c) && is_hex d) && is_hex e)
    (ltb (value_of a b c d e) 0x40000) t in
    let four = and_parts (((is_hex a && is_hex b) && is_hex c) && is_hex d) (is_hex e) all.0 in
    let three = and_parts ((is_hex a && is_hex b) && is_hex c) (is_hex d) four.0 in
    let two = and_parts (is_hex a && is_hex b) (is_hex c) three.0 in
    let one = and_parts (is_hex a) (is_hex b) two.0 in
    let low : value_of a b c d e < 0x40000 = ltb-true _ _ all.1 in
    let va = digit_low a one.0 in
    let vb = digit_low b one.1 in
    let vc = digit_low c two.1 in
    let vd = digit_low d three.1 in
    let ve = digit_low e four.1 in
    let la = value_low a in
    let lb = value_low b in
    let lc = value_low c in
    let ld = value_low d in
    let le = value_low e in
    (omega arith, omega arith, omega arith, omega arith, omega arith)

pub not_driven : (a b c d e : ℕ) → (AreLines a b c d e → ⊥) → None ≡ kind_at (a ∷ b ∷ c ∷ d ∷ e ∷ [])
not_driven a b c d e refuted =
    go ((((((is_hex a && is_hex b) && is_hex c) && is_hex d) && is_hex e) && ltb (value_of a b c d e) 0x40000)) refl
  where
    go : (q : Bool)
        → (((((is_hex a && is_hex b) && is_hex c) && is_hex d) && is_hex e) && ltb (value_of a b c d e) 0x40000) ≡ q
        → None ≡ kind_at (a ∷ b ∷ c ∷ d ∷ e ∷ [])
    go true t = absurd (refuted (are_lines a b c d e t))
    go false t = rw t refl
