use Rattle.text_pages.proofs.Putting.{and_then, and_spaced}
use Rattle.trace_text.proofs.replies_part.put_reply.Goals as goal

pub returns : goal.returns
returns g c =
    and_then c.put.ensures (and_spaced _ c.put_spaced.ensures (and_then c.put_outcome.ensures c.put-2.ensures))
