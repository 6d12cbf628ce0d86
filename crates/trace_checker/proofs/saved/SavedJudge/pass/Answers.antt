use Rattle.std.proofs.Common.{◌≡◌, ◌+◌, ◌∙◌, sym, ap, ℕ, length, arith}
use Rattle.std.specs.Prelude.{Option}
use Rattle.std.proofs.lemmas.Grind.{common_steps}
use Rattle.bus_rules.specs.Rules.{judged, verdict_of, if_lawful}
use Rattle.trace_checker.proofs.Verdicts.{stays}
use Rattle.trace_checker.proofs.saved.SavedJudge.pass.Goals as goal

pub returns-then-pass-clause-kept : goal.returns-then-pass-clause-kept
returns-then-pass-clause-kept c = λ rows is few _.
    let same = is.count in
    record {
      terms = c.pass.ensures.kept rows is.terms c.if-pass.true;
      count = grind (arith, common_steps);
      verdict = is.verdict ∙ sym (ap (λ (x : Option ℕ). if_lawful (judged rows) (verdict_of (length rows + 1) x))
          (c.pass.ensures.lawful rows is.terms c.if-pass.true) ∙ stays (judged rows));
    }

pub returns-then-pass-clause-exact : goal.returns-then-pass-clause-exact
returns-then-pass-clause-exact c = λ rows is. sym c.if-pass.true ∙ c.pass.ensures.exact rows is.terms

pub returns-clause-exact : goal.returns-clause-exact
returns-clause-exact c = λ rows is. sym c.if-pass.false ∙ c.pass.ensures.exact rows is.terms
