use Rattle.std.proofs.Common.{◌≡◌, ℕ, ◌<◌, ◌≤◌, get_or}
use Rattle.bus_trace.specs.LineSet.{line_of}
use Rattle.bus_trace.specs.Trace.{newer}
use Rattle.bus_rules.proofs.saved_view.renew_data_lines.Given as goal

abbrev pub invariant-loop-k : goal.invariant-loop-k
invariant-loop-k l = record {
  done : (k : ℕ) → 0 ≤ k → k < l.k
      → get_or l.data_lines k 0 ≡ newer (line_of k) l.before l.after (get_or l.initial.data_lines k 0) l.time;
  left : (k : ℕ) → l.k ≤ k → get_or l.data_lines k 0 ≡ get_or l.initial.data_lines k 0;
}
