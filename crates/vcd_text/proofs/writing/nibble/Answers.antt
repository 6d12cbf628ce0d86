use Rattle.std.proofs.Common.{◌≡◌, ℕ, ◌+◌, ◌*◌, ◌/◌, ◌%◌, ◌<◌, [], ◌∷◌, get_or, ◌∙◌, arith}
use Rattle.std.specs.Prelude.{◌==◌, if◌then◌else◌}
use Rattle.text_words.proofs.Tables.{value_at}
use Rattle.vcd_text.specs.DumpText.{bit_text}
use Rattle.vcd_text.specs.declared.writing.TheConstants.{NIBBLES}
use Rattle.vcd_text.proofs.writing.nibble.Goals as goal

-- the weight of the digit that stands at this place
abbrev weight : ℕ → ℕ
weight k = if k == 0 then 8 else if k == 1 then 4 else if k == 2 then 2 else 1

abbrev digit : ℕ → ℕ
digit p = bit_text (p / 4) (weight (p % 4))

digit_at : (p n k : ℕ) → p < 64 → p / 4 ≡ n → p % 4 ≡ k → get_or NIBBLES p 0 ≡ bit_text n (weight k)
digit_at p n k low number place = value_at NIBBLES digit 64 p tt low ∙ (λ i. bit_text (number i) (weight (place i)))

pub returns : goal.returns
returns c =
    let n = c.args.number in
    let few : n < 16 = c.requires in
    let first = digit_at (n * 4) n 0 (omega arith) (omega arith) (omega arith) in
    let second = digit_at (n * 4 + 1) n 1 (omega arith) (omega arith) (omega arith) in
    let third = digit_at (n * 4 + 2) n 2 (omega arith) (omega arith) (omega arith) in
    let fourth = digit_at (n * 4 + 3) n 3 (omega arith) (omega arith) (omega arith) in
    λ i. first i ∷ second i ∷ third i ∷ fourth i ∷ []
