use Rattle.std.proofs.Common.{sym, append-nil}
use Rattle.text_pages.proofs.Putting.{and_then, put_as, whole_ok, whole_err}
use Rattle.trace_text.proofs.Devices.{of_devices}
use Rattle.trace_text.proofs.whole_trace.write_trace.Goals as goal

pub put_trace-requires : goal.put_trace-requires
put_trace-requires g c = of_devices c.args.rows.now c.requires

pub returns-then-is_failed-clause-whole : goal.returns-then-is_failed-clause-whole
returns-then-is_failed-clause-whole g c =
    let put = put_as _ (and_then c.put_trace.ensures c.flush.ensures.put) (append-nil _) in
    (whole_err _ _ _ put c.new_page-page.ensures.fresh (sym c.if-is_failed.ensures) c.new_page-page.ensures.empty).0

pub returns-else-is_failed-clause-whole : goal.returns-else-is_failed-clause-whole
returns-else-is_failed-clause-whole g c =
    let put = put_as _ (and_then c.put_trace.ensures c.flush.ensures.put) (append-nil _) in
    whole_ok _ _ _ put c.new_page-page.ensures.fresh
    (sym c.if-is_failed.ensures) c.new_page-page.ensures.empty c.flush.ensures.clear
