use Rattle.std.proofs.Common.{sym, append-nil}
use Rattle.text_pages.proofs.Putting.{and_then, put_as, whole_err}
use Rattle.trace_text.proofs.whole_report.report.Goals as goal

pub returns-then-is_failed-clause-whole : goal.returns-then-is_failed-clause-whole
returns-then-is_failed-clause-whole g c =
    let put = put_as _ (and_then c.put_report.ensures c.flush.ensures.put) (append-nil _) in
    (whole_err _ _ _ put c.new_page-page.ensures.fresh (sym c.if-is_failed.ensures) c.new_page-page.ensures.empty).0
