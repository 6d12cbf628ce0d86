use Rattle.text_words.proofs.Again.{digit_again}
use Rattle.text_words.proofs.laws.digit_again.Goals as goal

pub returns : goal.returns
returns c = digit_again
