use Rattle.std.proofs.Common.{sym}
use Rattle.text_pages.specs.AbortText.{abort_text}
use Rattle.text_pages.proofs.Putting.{and_then, put_as}
use Rattle.text_pages.proofs.parts.put_abort.Goals as goal

pub returns-in-Tag : goal.returns-in-Tag
returns-in-Tag g c = put_as _ (and_then c.put-in-Tag.ensures c.put_number.ensures) (λ j. abort_text (sym c.in-Tag.is j))
