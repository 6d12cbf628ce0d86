use Rattle.text_pages.proofs.Putting.{and_then, and_spaced, put_as}
use Rattle.trace_text.proofs.Shown.{shown}
use Rattle.trace_text.proofs.blocks_part.put_block.Goals as goal

pub returns : goal.returns
returns g c = put_as _ (and_then c.put.ensures (and_spaced _ c.put_spaced.ensures (and_spaced _ c.put_spaced-2.ensures
    (and_spaced _ c.put_spaced-3.ensures (and_then c.put_hex.ensures c.put-2.ensures)))))
    (shown _ _ c.if-is_zero.ensures)
