use Rattle.std.proofs.Common.{ℕ, ◌/◌, ◌%◌, [], ◌∷◌, arith}
use Rattle.text_words.specs.Spelling.{hex_digit}
use Rattle.text_words.specs.declared.writing.TheConstants.{PAIRS}
use Rattle.text_words.proofs.Tables.{pair_at}
use Rattle.text_words.proofs.writing.byte_text.Goals as goal

pub returns : goal.returns
returns c =
    let at = pair_at PAIRS (λ (n : ℕ). hex_digit (n / 16))
    (λ (n : ℕ). hex_digit (n % 16)) 256 c.args.byte tt (omega arith) in
    λ i. at.0 i ∷ at.1 i ∷ []
