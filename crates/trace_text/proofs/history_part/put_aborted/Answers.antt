use Rattle.text_pages.proofs.Putting.{and_then, and_spaced}
use Rattle.trace_text.proofs.history_part.put_aborted.Goals as goal

pub returns : goal.returns
returns g c = and_then c.put.ensures (and_spaced _ c.put_spaced.ensures
    (and_spaced _ c.put_spaced-2.ensures (and_spaced _ c.put_spaced-3.ensures c.put_abort.ensures)))
