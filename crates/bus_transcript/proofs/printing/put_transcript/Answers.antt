use Rattle.text_pages.proofs.Putting.{and_then}
use Rattle.bus_transcript.proofs.printing.put_transcript.Goals as goal

pub returns : goal.returns
returns g c = and_then c.put.ensures (and_then c.put_items.ensures c.put-2.ensures)
