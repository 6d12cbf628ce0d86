use Rattle.std.proofs.Common.{◌∙◌, ap}
use Rattle.bus_rules.specs.Rules.{lowest_broken}
use Rattle.bus_rules.specs.declared.seen.Seen.{Seen}
use Rattle.bus_rules.proofs.saved_terms.SavedTerms.judge.Goals as goal

pub returns-clause-broken : goal.returns-clause-broken
returns-clause-broken c = λ rows h.
    c.lowest_broken.ensures ∙ ap (λ (s : Seen). lowest_broken s c.args.row.now) (c.step-seen.ensures.seen rows h)
