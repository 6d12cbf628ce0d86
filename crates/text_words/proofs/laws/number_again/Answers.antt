use Rattle.text_words.proofs.Again.{number_again}
use Rattle.text_words.proofs.laws.number_again.Goals as goal

pub returns : goal.returns
returns c = number_again
