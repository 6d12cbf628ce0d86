use Rattle.text_pages.proofs.Putting.{and_then, and_spaced}
use Rattle.trace_text.proofs.tapes_part.put_position.Goals as goal

pub returns : goal.returns
returns g c = and_then c.put.ensures (and_spaced _ c.put_spaced.ensures
    (and_spaced _ c.put_spaced-2.ensures (and_then c.put_number.ensures c.put-2.ensures)))
