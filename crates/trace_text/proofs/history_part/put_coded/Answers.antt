use Rattle.text_pages.proofs.Putting.{and_then}
use Rattle.trace_text.proofs.history_part.put_coded.Goals as goal

pub returns : goal.returns
returns g c = and_then c.put.ensures (and_then c.put_process.ensures (and_then c.put-2.ensures c.put_byte.ensures))
