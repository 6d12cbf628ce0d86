use Rattle.std.proofs.Common.{◌∙◌}
use Rattle.reaction_model.specs.Reset.{with_reset}
use Rattle.initiator.proofs.due.next_by.Goals as goal

pub returns : goal.returns
returns c = λ rows o.
    let mine = c.myself-me.ensures.exact rows (c.view.ensures.trace rows o) in
    c.due_with_reset.ensures
    ∙ (λ j. with_reset (mine j) (c.rst.ensures.value j) c.args.known.now.reset (c.calm_due-calm.ensures rows o mine j))
