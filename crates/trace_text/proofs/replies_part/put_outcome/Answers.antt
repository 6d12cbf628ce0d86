use Rattle.std.proofs.Common.{sym, ap, ◌∙◌, ◌++◌}
use Rattle.std.specs.Prelude.{codes}
use Rattle.trace_text.specs.ReplyText.{bytes_text, outcome_text}
use Rattle.text_pages.proofs.Putting.{and_then, put_as}
use Rattle.trace_text.proofs.replies_part.put_outcome.Goals as goal

pub returns-in-Good : goal.returns-in-Good
returns-in-Good g c =
    let text = ap (λ bytes. codes "GOOD" ++ bytes_text bytes) c.as_slice.ensures in
    put_as _ (and_then c.put.ensures c.put_bytes.ensures) (text ∙ (λ j. outcome_text (sym c.in-Good.is j)))

pub returns-in-Check : goal.returns-in-Check
returns-in-Check g c =
    put_as _ (and_then c.put-in-Check.ensures c.put_sense.ensures) (λ j. outcome_text (sym c.in-Check.is j))
