use Rattle.std.proofs.Common.{drop}
use Rattle.std.specs.Prelude.{map}
use Rattle.run_record.specs.Value.{reeled_by}
use Rattle.trace_text.specs.TapeText.{tapes_text}
use Rattle.trace_text.specs.ReportText.{tape_name}
use Rattle.text_pages.specs.Pages.{place}
use Rattle.text_pages.proofs.Putting.{IsOn}
use Rattle.trace_text.proofs.tapes_part.put_tapes.Given as goal

abbrev pub invariant-loop-index : goal.invariant-loop-index
invariant-loop-index g l = IsOn (place (g.K.Sink.written l.initial.out) (g.K.Sink.faults l.initial.out) l.initial.page)
    (place (g.K.Sink.written l.out) (g.K.Sink.faults l.out) l.page) (tapes_text (map tape_name l.lines)
    (map reeled_by l.tapes)) (tapes_text (map tape_name (drop l.index l.lines)) (map reeled_by (drop l.index l.tapes)))
