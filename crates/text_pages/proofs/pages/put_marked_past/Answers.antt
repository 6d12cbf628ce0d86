use Rattle.text_pages.proofs.Putting.{and_then}
use Rattle.text_pages.proofs.pages.put_marked_past.Goals as goal

pub returns : goal.returns
returns g c = and_then c.put.ensures (and_then c.put_short.ensures c.put-2.ensures)
