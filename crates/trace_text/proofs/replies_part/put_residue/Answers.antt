use Rattle.std.proofs.Common.{sym}
use Rattle.trace_text.specs.ReplyText.{residue_text}
use Rattle.text_pages.proofs.Putting.{and_then, put_as}
use Rattle.trace_text.proofs.replies_part.put_residue.Goals as goal

pub returns-in-Some : goal.returns-in-Some
returns-in-Some g c = put_as _ (and_then c.put.ensures
    (and_then c.put_byte.ensures (and_then c.put-in-Some.ensures c.put_number.ensures)))
    (λ j. residue_text c.args.marks (sym c.in-Some.is j))
