use Rattle.text_pages.proofs.Putting.{and_then}
use Rattle.text_pages.proofs.parts.put_spaced.Goals as goal

pub returns : goal.returns
returns g c = and_then c.put_number.ensures c.put.ensures
