use Rattle.text_words.proofs.Only.{number_only}
use Rattle.text_words.proofs.laws.number_only.Goals as goal

pub returns : goal.returns
returns c = number_only
