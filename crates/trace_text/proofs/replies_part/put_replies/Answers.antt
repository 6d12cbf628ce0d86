use Rattle.std.proofs.Common.{ap, ◌+◌}
use Rattle.trace_text.specs.ReplyText.{replies_text}
use Rattle.text_pages.proofs.Putting.{goes_on}
use Rattle.trace_text.proofs.replies_part.put_replies.Goals as goal
use Rattle.bus_base.proofs.Tests.{item_next}

pub loop-index-preserved : goal.loop-index-preserved
loop-index-preserved g c = goes_on _ c.loop-index.invariant c.put_reply.ensures
    (ap (λ outcomes. replies_text (c.loop-index.index + 1) outcomes)
    (item_next _ _ _ c.loop-index-test.true c.index-outcomes-index.is))
