use Rattle.std.proofs.Common.{◌∙◌, get_or, false}
use Rattle.target_units.proofs.absent.AbsentUnit.holds.Goals as goal

pub returns-clause-seat : goal.returns-clause-seat
returns-clause-seat c =
    λ seat h. (λ i. get_or (c.self.view_is i).held c.args.from false) ∙ h.held c.args.from c.requires.device
