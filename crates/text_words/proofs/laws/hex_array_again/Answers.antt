use Rattle.text_words.proofs.Again.{hex_array_again}
use Rattle.text_words.proofs.laws.hex_array_again.Goals as goal

pub returns : goal.returns
returns c = hex_array_again
