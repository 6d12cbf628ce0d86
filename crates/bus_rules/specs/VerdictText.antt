-- The text of a verdict.
use Rattle.std.specs.Prelude.{ℕ, List, ◌++◌, codes, decimal}
use Rattle.bus_rules.specs.declared.verdict.Verdict.{Verdict}
use Rattle.bus_rules.specs.declared.verdict.Verdict.TheVariants.{Lawful, Broken}

-- `lawful`, or `row N breaks rule R`; the end is one row more
abbrev pub verdict_text : Verdict → List ℕ
verdict_text Lawful = codes "lawful"
verdict_text (Broken row rule) = codes "row " ++ (decimal row ++ (codes " breaks rule " ++ decimal rule))
