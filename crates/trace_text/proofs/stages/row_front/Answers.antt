use Rattle.std.proofs.Common.{length, ◌-◌, rules, arith}
use Rattle.trace_text.proofs.RowFront.{longer, row_front, front_none}
use Rattle.std.proofs.lemmas.Bool.Decides.{nat_tests}
use Rattle.trace_text.proofs.stages.row_front.Goals as goal
use Rattle.trace_text.proofs.stages.row_front.Goals.{in_default-via-then-rest-lt9}
use Rattle.trace_text.proofs.stages.row_front.Goals.{in_default-via-in-32+then-dev-ge48+else-dev-le55}
use Rattle.trace_text.proofs.stages.row_front.Goals.{in_default-via-in-32+else-dev-ge48}
use Rattle.trace_text.proofs.stages.row_front.Goals.{in_default-via-else-rest-lt9+in-32+in-32-rest-2+in_default-1}
use Rattle.trace_text.proofs.stages.row_front.Goals.{in_default-via-else-rest-lt9+in-32+in_default-1}
use Rattle.trace_text.proofs.stages.row_front.Goals.{in_default-via-else-rest-lt9+in_default-1}

pub overflow_sub-result : goal.overflow_sub-result
overflow_sub-result c = longer c.args.bytes.now c.in_ok-time.rest.now c.in_ok-time.time c.in_ok-time-2.time
    (length c.in_ok-time.rest.now - 9) (search rules) (search rules)

pub returns-in_ok-kind-in-32-clause-starts : goal.returns-in_ok-kind-in-32-clause-starts
returns-in_ok-kind-in-32-clause-starts c = row_front c.args.bytes.now c.in_ok-time.rest.now c.in_ok-time.time
    c.in_ok-time-2.time c.in_ok-kind-in-32.kind (search rules) (search rules) (record {
      nine = search rules;
      first = search rules;
      low = search rules;
      high = search rules;
      second = search rules;
      lines = search rules;
      feed = search rules;
    })

pub returns-in_default-clause-exact : goal.returns-in_default-clause-exact
returns-in_default-clause-exact c =
    front_none c.args.bytes.now c.in_ok-time.rest.now c.in_ok-time.time c.in_ok-time-2.time (search rules)
    (search rules) (λ has. let nine = has.nine in let first = has.first in let low = has.low in let high = has.high in
    let second = has.second in let feed = has.feed in elim c.in_default.branch [
      | in_default-via-then-rest-lt9 w ↦ absurd (grind (arith, nat_tests))
      | in_default-via-in-32+then-dev-ge48+else-dev-le55 w ↦ absurd (omega arith)
      | in_default-via-in-32+else-dev-ge48 w ↦ absurd (omega arith)
      | in_default-via-else-rest-lt9+in-32+in-32-rest-2+in_default-1 w ↦ absurd (grind (arith, nat_tests))
      | in_default-via-else-rest-lt9+in-32+in_default-1 w ↦ absurd (grind (arith, nat_tests))
      | in_default-via-else-rest-lt9+in_default-1 w ↦ absurd (grind (arith, nat_tests))
    ])
