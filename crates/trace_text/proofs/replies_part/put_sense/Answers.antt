use Rattle.std.proofs.Common.{sym}
use Rattle.trace_text.specs.ReplyText.{sense_text}
use Rattle.text_pages.proofs.Putting.{and_then, put_as}
use Rattle.trace_text.proofs.replies_part.put_sense.Goals as goal

pub returns-in-Some : goal.returns-in-Some
returns-in-Some g c = put_as _ (and_then c.put_byte.ensures
    (and_then c.put_byte-in-Some.ensures (and_then c.put_byte-in-Some-2.ensures c.put_residue.ensures)))
    (λ j. sense_text (sym c.in-Some.is j))
