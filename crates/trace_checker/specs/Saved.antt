-- A judge as plain words, and the judge that such words say. Any words say some judge.
use Rattle.std.specs.Prelude.{◌%◌, ◌==◌, if◌then◌else◌}
use Rattle.bus_rules.specs.declared.verdict.Verdict.{Verdict}
use Rattle.bus_rules.specs.declared.verdict.Verdict.TheVariants.{Lawful, Broken}
use Rattle.bus_rules.specs.Saved.{terms_in}
use Rattle.trace_checker.specs.declared.Judge.{Judge}
use Rattle.trace_checker.specs.declared.saved.SavedVerdict.{SavedVerdict}
use Rattle.trace_checker.specs.declared.saved.SavedJudge.{SavedJudge}

abbrev pub verdict_in : SavedVerdict → Verdict
verdict_in s = if s.is_broken == 0 then Lawful else Broken s.row (s.rule % 256)

abbrev pub judge_in : SavedJudge → Judge
judge_in s = record { terms = terms_in s.terms; count = s.count; verdict = verdict_in s.verdict }
