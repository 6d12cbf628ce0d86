use Rattle.text_pages.proofs.Putting.{and_then}
use Rattle.trace_text.proofs.short_form.put_endings.Goals as goal

pub returns : goal.returns
returns g c = and_then c.put_ending.ensures (and_then c.put_ending-2.ensures (and_then c.put_ending-3.ensures (and_then
    c.put_ending-4.ensures (and_then c.put_ending-5.ensures (and_then c.put_ending-6.ensures c.put_ending-7.ensures)))))
