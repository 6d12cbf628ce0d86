use Rattle.text_words.proofs.Only.{after_only}
use Rattle.text_words.proofs.laws.after_only.Goals as goal

pub returns : goal.returns
returns c = after_only
