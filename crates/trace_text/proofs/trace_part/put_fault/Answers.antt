use Rattle.std.proofs.Common.{refl}
use Rattle.text_pages.proofs.Putting.{and_then, put_as}
use Rattle.trace_text.proofs.trace_part.put_fault.Goals as goal

pub returns : goal.returns
returns g c = and_then c.put_number.ensures
    (put_as _ (and_then c.put.ensures (and_then c.put_number-2.ensures c.put-2.ensures)) refl)
