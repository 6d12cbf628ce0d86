use Rattle.bus_trace.specs.LineSet.{LineSet}
use Rattle.bus_rules.proofs.Courses.{at_start}
use Rattle.bus_rules.proofs.course.Course.new.Goals as goal

pub returns : goal.returns
returns c = at_start _ _ _ _ _ _ (c.new.ensures (λ (s : LineSet). s.bsy)) (c.new-2.ensures (λ (s : LineSet). s.rst))
    c.no_pulses.ensures c.new-3.ensures c.opened.ensures c.asynchronous.ensures
