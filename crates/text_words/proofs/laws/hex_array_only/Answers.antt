use Rattle.text_words.proofs.Only.{hex_array_only}
use Rattle.text_words.proofs.laws.hex_array_only.Goals as goal

pub returns : goal.returns
returns c = hex_array_only
