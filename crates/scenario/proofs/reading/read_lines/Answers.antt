use Rattle.scenario.proofs.Reader.{goes_on, stops, ends, ends_early}
use Rattle.scenario.proofs.reading.read_lines.Goals as goal

pub returns-in-Err : goal.returns-in-Err
returns-in-Err c = rw c.told.ensures (stops _ _ _ _ _ c.first_line-line.result.rest.now c.in-Err.refusal
    c.loop-rest.invariant.0 c.first_line-line.ensures.exact c.in-Err.ensures.after)

pub loop-rest-preserved : goal.loop-rest-preserved
loop-rest-preserved c = (
  goes_on _ _ _ _ _ _ _ c.loop-rest.invariant.0 c.first_line-line.ensures.exact c.first_line-line.ensures.shorter
      c.in-Ok.ensures.after,
  c.in-Ok.ensures.index,
  c.in-Ok.ensures.count,
)

pub returns-then-is_end : goal.returns-then-is_end
returns-then-is_end c = ends _ _ _ _ c.loop-rest.invariant.0 c.loop-rest-test.ensures c.if-is_end.ensures

pub returns-else-is_end : goal.returns-else-is_end
returns-else-is_end c = ends_early _ _ _ _ c.loop-rest.invariant.0 c.loop-rest-test.ensures c.if-is_end.ensures
