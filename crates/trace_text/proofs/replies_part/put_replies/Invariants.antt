use Rattle.std.proofs.Common.{◌+◌, drop}
use Rattle.trace_text.specs.ReplyText.{replies_text}
use Rattle.text_pages.specs.Pages.{place}
use Rattle.text_pages.proofs.Putting.{IsOn}
use Rattle.trace_text.proofs.replies_part.put_replies.Given as goal

abbrev pub invariant-loop-index : goal.invariant-loop-index
invariant-loop-index g l = IsOn (place (g.K.Sink.written l.initial.out) (g.K.Sink.faults l.initial.out) l.initial.page)
    (place (g.K.Sink.written l.out) (g.K.Sink.faults l.out) l.page) (replies_text 1 l.outcomes)
    (replies_text (l.index + 1) (drop l.index l.outcomes))
