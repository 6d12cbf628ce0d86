use Rattle.std.proofs.Common.{rules, refl, sym, ◌∙◌, []}
use Rattle.bus_trace.specs.Trace.{drives}
use Rattle.bus_trace.proofs.Buses.{below_none}
use Rattle.bus_trace.proofs.line_view.LineView.new.Goals as goal

pub returns-clause-trace : goal.returns-clause-trace
returns-clause-trace c = record {
  long = refl;
  drives_are = search rules;
  bus_is = c.none-2.ensures ∙ sym (below_none (drives []) 8 (λ d lt. refl));
  data_lines_are = search rules;
  data_is = refl;
  times_are = c.new.ensures;
  last_is = refl;
}
