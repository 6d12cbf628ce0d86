use Rattle.std.proofs.Common.{[], ap, ◌∙◌, subst}
use Rattle.vcd_text.specs.Reading.{taken, read_of, Answers}
use Rattle.vcd_text.proofs.whole.read_vcd.Goals as goal

pub returns-clause-exact : goal.returns-clause-exact
returns-clause-exact c = subst (Answers c.finish.result) (c.in_ok-take_all.ensures.read []
    ∙ ap (λ r. read_of (taken r c.args.bytes.now)) c.new-reader.ensures) c.finish.ensures.exact
