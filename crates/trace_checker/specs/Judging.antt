-- The judge has seen these rows, the newest first.
use Rattle.std.specs.Prelude.{◌≡◌, List, length}
use Rattle.bus_trace.specs.declared.Row.{Row}
use Rattle.bus_rules.specs.Judging.{IsTermsOf}
use Rattle.bus_rules.specs.Rules.{judged}
use Rattle.trace_checker.specs.declared.Judge.{Judge}

pub record IsJudgeOf (rows : List Row) (j : Judge) : Type 0 where
  pub terms : IsTermsOf rows j.terms
  pub count : j.count ≡ length rows
  pub verdict : j.verdict ≡ judged rows
