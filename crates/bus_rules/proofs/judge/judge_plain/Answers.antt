-- Each row is judged after the rows before it.
use Rattle.std.proofs.Common.{◌+◌, ◌∙◌, List, reverse, take, sym, subst, arith}
use Rattle.bus_trace.specs.declared.Row.{Row}
use Rattle.bus_rules.specs.Judging.{IsTermsOf}
use Rattle.bus_rules.proofs.Past.{whole_broken, judged_next, judged_past}
use Rattle.bus_rules.proofs.judge.judge_plain.Goals as goal
use Rattle.bus_trace.proofs.OneRow.{rows_so_far}

pub returns-in-Some : goal.returns-in-Some
returns-in-Some c =
    let xs : List Row = c.args.rows.now in
    let past : List Row = reverse (take c.loop-i.i xs) in
    let row : Row = c.index-rows-i.result in
    let broken = sym (c.judge.ensures.broken past c.loop-i.invariant.terms) ∙ c.in-Some.is in
    let next = judged_next xs c.loop-i.i row c.loop-i-test.true c.index-rows-i.is _ broken c.loop-i.invariant.lawful in
    whole_broken xs (c.loop-i.i + 1) _ _ c.args.end next

pub loop-i-preserved : goal.loop-i-preserved
loop-i-preserved c =
    let xs : List Row = c.args.rows.now in
    let past : List Row = reverse (take c.loop-i.i xs) in
    let row : Row = c.index-rows-i.result in
    let kept = c.judge.ensures.kept past c.loop-i.invariant.terms in
    let broken = sym (c.judge.ensures.broken past c.loop-i.invariant.terms) ∙ c.in_default.is in
    record {
      terms = subst (λ (ps : List Row). IsTermsOf ps c.judge.new.self)
          (sym (rows_so_far xs c.loop-i.i row c.loop-i-test.true c.index-rows-i.is)) kept;
      lawful = judged_next xs c.loop-i.i row c.loop-i-test.true c.index-rows-i.is _ broken c.loop-i.invariant.lawful;
    }

pub returns-in-Some-lowest_at_end : goal.returns-in-Some-lowest_at_end
returns-in-Some-lowest_at_end c = judged_past c.args.rows.now c.loop-i.i c.args.end
    c.loop-i.terms c.step-seen.result c.end_row.result c.lowest_at_end.result _
    (let past = c.loop-i-test.false in omega arith) c.loop-i.invariant.lawful c.loop-i.invariant.terms
    c.step-seen.ensures.seen c.end_row.ensures c.lowest_at_end.ensures c.in-Some-lowest_at_end.is

pub returns-in-None : goal.returns-in-None
returns-in-None c = judged_past c.args.rows.now c.loop-i.i c.args.end c.loop-i.terms c.step-seen.result
    c.end_row.result c.lowest_at_end.result _ (let past = c.loop-i-test.false in omega arith) c.loop-i.invariant.lawful
    c.loop-i.invariant.terms c.step-seen.ensures.seen c.end_row.ensures c.lowest_at_end.ensures c.in-None.is
