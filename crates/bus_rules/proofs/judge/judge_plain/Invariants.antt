-- The rows so far obey every rule.
use Rattle.std.proofs.Common.{◌≡◌, reverse, take}
use Rattle.bus_rules.specs.Judging.{IsTermsOf}
use Rattle.bus_rules.specs.Rules.{judged}
use Rattle.bus_rules.specs.declared.verdict.Verdict.TheVariants.{Lawful}
use Rattle.bus_rules.proofs.judge.judge_plain.Given as goal

abbrev pub invariant-loop-i : goal.invariant-loop-i
invariant-loop-i l = record {
  terms : IsTermsOf (reverse (take l.i l.rows)) l.terms;
  lawful : judged (reverse (take l.i l.rows)) ≡ Lawful;
}
