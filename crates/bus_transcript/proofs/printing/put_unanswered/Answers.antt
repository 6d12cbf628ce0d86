use Rattle.text_pages.proofs.Putting.{and_then, and_spaced}
use Rattle.bus_transcript.proofs.printing.put_unanswered.Goals as goal

pub returns : goal.returns
returns g c = and_then c.put.ensures
    (and_spaced _ c.put_spaced.ensures (and_spaced _ c.put_spaced-2.ensures c.put_number.ensures))
