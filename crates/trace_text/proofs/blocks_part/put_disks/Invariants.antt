use Rattle.std.proofs.Common.{drop}
use Rattle.std.specs.Prelude.{map}
use Rattle.run_record.specs.Value.{held_by}
use Rattle.trace_text.specs.BlockText.{disks_text}
use Rattle.trace_text.specs.ReportText.{disk_name}
use Rattle.text_pages.specs.Pages.{place}
use Rattle.text_pages.proofs.Putting.{IsOn}
use Rattle.trace_text.proofs.blocks_part.put_disks.Given as goal

abbrev pub invariant-loop-index : goal.invariant-loop-index
invariant-loop-index g l = IsOn (place (g.K.Sink.written l.initial.out) (g.K.Sink.faults l.initial.out) l.initial.page)
    (place (g.K.Sink.written l.out) (g.K.Sink.faults l.out) l.page) (disks_text (map disk_name l.units)
    (map held_by l.disks)) (disks_text (map disk_name (drop l.index l.units)) (map held_by (drop l.index l.disks)))
