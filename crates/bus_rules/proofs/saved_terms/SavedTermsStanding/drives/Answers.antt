use Rattle.std.proofs.Common.{◌∙◌}
use Rattle.bus_rules.proofs.Words.{drives_in}
use Rattle.bus_rules.proofs.saved_terms.SavedTermsStanding.drives.Goals as goal

pub returns : goal.returns
returns c = λ rows v. c.lines_in.ensures ∙ drives_in c.args.self.now.view.driven c.args.dev c.requires
    ∙ v.drives_are c.args.dev c.requires
