use Rattle.std.proofs.Common.{List, sym, subst}
use Rattle.bus_trace.specs.declared.Row.{Row}
use Rattle.bus_rules.specs.Judging.{IsTermsOf}
use Rattle.bus_rules.proofs.judge.seen_after.Goals as goal
use Rattle.bus_trace.proofs.OneRow.{rows_so_far}

pub loop-row-preserved : goal.loop-row-preserved
loop-row-preserved c =
    let xs : List Row = c.args.rows.now in
    subst (λ (ps : List Row). IsTermsOf ps c.step.new.self)
    (sym (rows_so_far xs c.loop-row.row-index _ c.loop-row-test.true c.row-item.is))
    (c.step.ensures.kept _ c.loop-row.invariant)
