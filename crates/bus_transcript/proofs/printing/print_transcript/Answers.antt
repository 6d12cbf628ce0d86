use Rattle.std.proofs.Common.{sym, append-nil, ap, ◌∙◌}
use Rattle.bus_transcript.specs.Text.{transcript_text}
use Rattle.text_pages.proofs.Putting.{and_then, put_as, whole_ok, whole_err}
use Rattle.bus_transcript.proofs.printing.print_transcript.Goals as goal

pub returns-then-is_failed-clause-whole : goal.returns-then-is_failed-clause-whole
returns-then-is_failed-clause-whole g c =
    let put = put_as _ (and_then c.put_transcript.ensures c.flush.ensures.put)
    (append-nil _ ∙ ap transcript_text c.as_slice.ensures.value) in
    (whole_err _ _ _ put c.new_page-page.ensures.fresh (sym c.if-is_failed.ensures) c.new_page-page.ensures.empty).0

pub returns-else-is_failed-clause-whole : goal.returns-else-is_failed-clause-whole
returns-else-is_failed-clause-whole g c =
    let put = put_as _ (and_then c.put_transcript.ensures c.flush.ensures.put)
    (append-nil _ ∙ ap transcript_text c.as_slice.ensures.value) in
    whole_ok _ _ _ put c.new_page-page.ensures.fresh
    (sym c.if-is_failed.ensures) c.new_page-page.ensures.empty c.flush.ensures.clear
