use Rattle.std.proofs.Common.{◌-◌}
use Rattle.trace_text.specs.BlockText.{disk_text, blocks_from}
use Rattle.text_pages.specs.Pages.{place}
use Rattle.text_pages.proofs.Putting.{IsOn}
use Rattle.trace_text.proofs.blocks_part.put_disk.Given as goal

abbrev pub invariant-loop-from : goal.invariant-loop-from
invariant-loop-from g l = IsOn (place (g.K.Sink.written l.initial.out) (g.K.Sink.faults l.initial.out) l.initial.page)
    (place (g.K.Sink.written l.out) (g.K.Sink.faults l.out) l.page) (disk_text l.target l.unit l.disk.contents)
    (blocks_from l.target l.unit l.disk.contents l.from)

abbrev pub decreases-loop-from : goal.decreases-loop-from
decreases-loop-from g l = l.count - l.from
