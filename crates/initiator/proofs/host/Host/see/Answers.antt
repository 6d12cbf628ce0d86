use Rattle.std.proofs.Common.{◌∷◌, ◌∙◌, sym}
use Rattle.std.specs.Prelude.{is_some}
use Rattle.std.proofs.lemmas.Bool.{and_parts}
use Rattle.initiator.proofs.host.Host.see.Goals as goal
use Rattle.due_model.specs.dialogue_model.specs.Events.{is_empty}
use Rattle.due_model.specs.dialogue_model.proofs.Leavings.{empty_is}

pub returns-then-is_linked-clause-trace : goal.returns-then-is_linked-clause-trace
returns-then-is_linked-clause-trace c = λ s rows f o d shown h.
    let row = c.args.row.now in
    let e = c.effect.ensures.trace (row ∷ rows) (c.view.ensures.trace (row ∷ rows) o) in
    let both = and_parts _ (is_empty c.args.shown.now) (sym c.is_linked.ensures ∙ c.if-is_linked.true) in
    c.see_linked.ensures.trace s rows f o d shown ((λ j. is_some (sym e j).before) ∙ both.0)
    (sym shown ∙ empty_is c.args.shown.now both.1) h
