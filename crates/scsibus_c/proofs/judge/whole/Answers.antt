use Rattle.std.proofs.Common.{◌∙◌, [], List, ap, arith}
use Rattle.bus_trace.specs.declared.Row.{Row}
use Rattle.bus_rules.specs.declared.verdict.Verdict.{Verdict}
use Rattle.scsibus_c.specs.Rows.{rows_after, told}
use Rattle.scsibus_c.proofs.Past.{as_many}
use Rattle.scsibus_c.proofs.judge.whole.Goals as goal

pub returns : goal.returns
returns c =
    let seen : List Row = rows_after [] c.args.rows.now in
    let many = as_many [] c.args.rows.now in
    let few = c.requires.few in
    c.told.ensures ∙ ap (λ (v : Verdict). told v)
    (c.finish.ensures seen (c.take.ensures [] c.new-judge.ensures (omega arith)) (omega arith))
