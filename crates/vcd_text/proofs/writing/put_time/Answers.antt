use Rattle.std.proofs.Common.{arith}
use Rattle.text_pages.proofs.Putting.{and_then, put_as, nothing}
use Rattle.vcd_text.proofs.Written.{time_shown, time_hidden}
use Rattle.vcd_text.proofs.writing.put_time.Goals as goal

pub returns-clause-text : goal.returns-clause-text
returns-clause-text g c = put_as _ (and_then c.put.ensures (and_then c.put_number.ensures c.put-2.ensures))
    (time_shown c.args.last c.args.time (omega (arith, c.if-last-time.false)))

pub returns-then-last-time-clause-text : goal.returns-then-last-time-clause-text
returns-then-last-time-clause-text g c =
    put_as _ (nothing _) (time_hidden c.args.last c.args.time (omega (arith, c.if-last-time.true)))
