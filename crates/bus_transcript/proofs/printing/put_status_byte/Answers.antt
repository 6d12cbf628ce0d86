use Rattle.text_pages.proofs.Putting.{and_then}
use Rattle.bus_transcript.proofs.printing.put_status_byte.Goals as goal

pub returns : goal.returns
returns g c = and_then c.put.ensures c.put_byte.ensures
