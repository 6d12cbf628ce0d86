-- The terms are those of the rows so far.
use Rattle.std.proofs.Common.{reverse, take}
use Rattle.bus_rules.specs.Judging.{IsTermsOf}
use Rattle.bus_rules.proofs.judge.seen_after.Given as goal

abbrev pub invariant-loop-row : goal.invariant-loop-row
invariant-loop-row l = IsTermsOf (reverse (take l.row-index l.rows)) l.terms
