-- What a row does to a verdict.
use Rattle.std.proofs.Common.{◌≡◌, refl}
use Rattle.bus_rules.specs.declared.verdict.Verdict.{Verdict}
use Rattle.bus_rules.specs.declared.verdict.Verdict.TheVariants.{Lawful, Broken}
use Rattle.bus_rules.specs.Rules.{if_lawful}

-- a row that breaks no rule leaves it
pub stays : (v : Verdict) → if_lawful v Lawful ≡ v
stays Lawful = refl
stays (Broken place rule) = refl
