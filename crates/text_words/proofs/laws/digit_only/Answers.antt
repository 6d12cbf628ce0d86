use Rattle.text_words.proofs.Only.{digit_only}
use Rattle.text_words.proofs.laws.digit_only.Goals as goal

pub returns : goal.returns
returns c = digit_only
