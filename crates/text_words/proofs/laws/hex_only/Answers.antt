use Rattle.text_words.proofs.Only.{hex_only}
use Rattle.text_words.proofs.laws.hex_only.Goals as goal

pub returns : goal.returns
returns c = hex_only
