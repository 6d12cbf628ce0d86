use Rattle.text_pages.proofs.Putting.{and_then}
use Rattle.bus_transcript.proofs.printing.put_name.Goals as goal

pub returns : goal.returns
returns g c = and_then c.put_number.ensures
    (and_then c.put.ensures (and_then c.put_number-2.ensures (and_then c.put-2.ensures (and_then c.put_or_dash.ensures
    (and_then c.put-3.ensures (and_then c.put_or_dash-2.ensures (and_then c.put-4.ensures c.put_number-3.ensures)))))))
