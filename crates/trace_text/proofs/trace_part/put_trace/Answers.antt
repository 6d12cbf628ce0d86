use Rattle.text_pages.proofs.Putting.{and_then}
use Rattle.trace_text.proofs.trace_part.put_trace.Goals as goal

pub returns : goal.returns
returns g c = and_then c.put.ensures
    (and_then c.put_rows.ensures (and_then c.put-2.ensures (and_then c.put_number.ensures c.put-3.ensures)))
