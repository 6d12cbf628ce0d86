use Rattle.text_words.proofs.Again.{after_same}
use Rattle.text_words.proofs.laws.after_same.Goals as goal

pub returns : goal.returns
returns c = after_same
