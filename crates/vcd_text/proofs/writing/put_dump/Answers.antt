use Rattle.std.proofs.Common.{ap, ◌++◌}
use Rattle.vcd_text.specs.DumpText.{head_text, rows_text, time_text}
use Rattle.text_pages.proofs.Putting.{and_then, put_as}
use Rattle.vcd_text.proofs.writing.put_dump.Goals as goal

pub returns : goal.returns
returns g c = put_as _ (and_then c.put_head.ensures (and_then c.put_rows-last.ensures.text c.put_time.ensures.text))
    (ap (λ last. head_text ++ (rows_text 0 c.args.rows.now ++ time_text last c.args.end)) c.put_rows-last.ensures.last)
