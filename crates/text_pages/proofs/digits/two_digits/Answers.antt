use Rattle.std.proofs.Common.{ℕ, ◌+◌, ◌/◌, ◌%◌, [], ◌∷◌}
use Rattle.text_pages.specs.declared.digits.TheConstants.{PAIRS}
use Rattle.text_words.proofs.Tables.{pair_at}
use Rattle.text_pages.proofs.digits.two_digits.Goals as goal

pub returns : goal.returns
returns c =
    let at = pair_at PAIRS (λ (n : ℕ). 48 + n / 10) (λ (n : ℕ). 48 + n % 10) 100 c.args.number tt c.requires in
    λ i. at.0 i ∷ at.1 i ∷ []
