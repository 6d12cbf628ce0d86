use Rattle.std.proofs.Common.{◌≡◌, [], ◌∷◌, sym, subst, ◌∙◌}
use Rattle.scenario.specs.Writing.{Obeys}
use Rattle.scenario.specs.Making.{made}
use Rattle.scenario.proofs.Made.{made_obeys}
use Rattle.scenario.proofs.making.make.Goals as goal

pub returns-clause-obeys : goal.returns-clause-obeys
returns-clause-obeys c =
    let exact : _ ≡ made c.args.seed c.args.n = λ i. record {
      version = 1;
      hosts = (c.in_ok-hosts.ensures.items ∙ c.hosts.ensures) i;
      targets = (c.in_ok-targets.ensures.items ∙ c.targets.ensures) i;
      units = (c.in_ok-units.ensures.items ∙ (λ j. c.unit.ensures j ∷ c.unit-2.ensures j ∷ c.unit-3.ensures j ∷ [])) i;
      fills = c.new.ensures.items i;
      tapes = c.new-2.ensures.items i;
      loads = c.new-3.ensures.items i;
      commands = c.in_ok-commands.ensures i;
      aborts = c.new-4.ensures.items i;
      resets = c.new-5.ensures.items i;
      faults = c.new-6.ensures.items i;
    } in
    subst Obeys (sym exact) (made_obeys c.args.seed c.args.n c.requires)
