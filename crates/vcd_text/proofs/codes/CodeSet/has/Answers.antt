use Rattle.std.proofs.Common.{◌∙◌, ap}
use Rattle.vcd_text.specs.Codes.{has_code}
use Rattle.vcd_text.proofs.CodeSets.{found}
use Rattle.vcd_text.proofs.codes.CodeSet.has.Goals as goal

pub returns : goal.returns
returns c = c.contains.ensures ∙ found c.self.inside.codes.keys c.args.code.now
    ∙ ap (λ codes. has_code codes c.args.code.now) c.self.view_is
