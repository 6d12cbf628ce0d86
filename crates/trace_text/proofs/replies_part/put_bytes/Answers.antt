use Rattle.text_pages.proofs.Putting.{and_then, put_as}
use Rattle.trace_text.proofs.Shown.{bytes_shown}
use Rattle.trace_text.proofs.replies_part.put_bytes.Goals as goal

pub returns : goal.returns
returns g c = put_as _ (and_then c.put.ensures c.put_hex.ensures) (bytes_shown _ c.if-is_empty.ensures)
