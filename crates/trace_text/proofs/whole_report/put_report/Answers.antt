use Rattle.std.proofs.Common.{◌≡◌, ap}
use Rattle.std.specs.Prelude.{map}
use Rattle.trace_text.specs.ReportText.{disk_name, tape_name, report_text, report_of}
use Rattle.run_record.specs.Value.{RunValue, held_by, reeled_by}
use Rattle.text_pages.proofs.Putting.{and_then, put_as}
use Rattle.trace_text.proofs.whole_report.put_report.Goals as goal

pub returns : goal.returns
returns g c =
    let parts = and_then c.put_trace.ensures
    (and_then c.put.ensures (and_then c.put_history.ensures (and_then c.put-2.ensures
    (and_then c.put_replies.ensures (and_then c.put-3.ensures (and_then c.put_disks.ensures
    (and_then c.put_tapes.ensures c.put-4.ensures))))))) in
    let disks : map disk_name c.deref-3.result.now ≡ map disk_name c.s.inside.units.items = ap
    (λ units. map disk_name units) c.deref-3.ensures.value in
    let tapes : map tape_name c.deref-5.result.now ≡ map tape_name c.s.inside.tapes.items = ap
    (λ lines. map tape_name lines) c.deref-5.ensures.value in
    let view : RunValue = record {
      rows = c.run.inside.rows;
      end = c.run.inside.end;
      history = c.run.inside.history.items;
      replies = c.run.inside.replies.items;
      disks = map held_by c.run.inside.disks.items;
      tapes = map reeled_by c.run.inside.tapes.items;
    } in
    put_as _
    (put_as (report_text (map disk_name c.s.inside.units.items) (map tape_name c.s.inside.tapes.items) view) parts
    (λ j. report_text (disks j) (tapes j) (record {
      rows = c.run.inside.rows;
      end = c.run.inside.end;
      history = c.deref.ensures.value j;
      replies = c.deref-2.ensures.value j;
      disks = map held_by (c.deref-4.ensures.value j);
      tapes = map reeled_by (c.deref-6.ensures.value j);
    }))) (λ j. report_of (c.s.view_is j) (c.run.view_is j))
