use Rattle.text_words.proofs.Again.{hex_again, bytes_again}
use Rattle.text_words.proofs.laws.hex_again.Goals as goal

pub returns-clause-read : goal.returns-clause-read
returns-clause-read c = hex_again

pub returns-clause-bytes : goal.returns-clause-bytes
returns-clause-bytes c = bytes_again
