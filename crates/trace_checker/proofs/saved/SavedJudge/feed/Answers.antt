use Rattle.std.proofs.Common.{◌≡◌, ◌+◌, ◌∙◌, false, refl, sym, ap, ℕ, length, arith}
use Rattle.std.specs.Prelude.{Option, Some, None, is_some}
use Rattle.std.proofs.lemmas.Grind.{common_steps}
use Rattle.bus_rules.specs.Rules.{judged, verdict_of, if_lawful}
use Rattle.trace_checker.proofs.Verdicts.{stays}
use Rattle.trace_checker.proofs.saved.SavedJudge.feed.Goals as goal

none_is : (o : Option ℕ) → is_some o ≡ false → o ≡ None
none_is None e = refl
none_is (Some x) e = absurd cc

pub returns-then-is_some : goal.returns-then-is_some
returns-then-is_some c = λ rows is few.
    let same = is.count in
    let next : c.saturating_add-self.result ≡ length rows + 1 = grind (arith, common_steps) in
    record {
      terms = c.judge-broken.ensures.kept rows is.terms;
      count = grind (arith, common_steps);
      verdict = c.of-self.ensures ∙ c.joined-verdict.ensures ∙ (λ i. if_lawful ((c.get.ensures ∙ is.verdict) i)
          (verdict_of (next i) (c.judge-broken.ensures.broken rows is.terms i)));
    }

pub returns-else-is_some : goal.returns-else-is_some
returns-else-is_some c = λ rows is few.
    let same = is.count in
    let lawful = none_is c.judge-broken.result (sym c.is_some.ensures ∙ c.if-is_some.false) in
    record {
      terms = c.judge-broken.ensures.kept rows is.terms;
      count = grind (arith, common_steps);
      verdict = is.verdict ∙ sym (ap (λ (x : Option ℕ). if_lawful (judged rows) (verdict_of (length rows + 1) x))
          (sym (c.judge-broken.ensures.broken rows is.terms) ∙ lawful) ∙ stays (judged rows));
    }
