use Rattle.text_pages.proofs.Putting.{and_then}
use Rattle.vcd_text.proofs.writing.put_head.Goals as goal

pub returns : goal.returns
returns g c = and_then c.put.ensures (and_then c.put-2.ensures
    (and_then c.put-3.ensures (and_then c.put-4.ensures (and_then c.put-5.ensures c.put-6.ensures))))
