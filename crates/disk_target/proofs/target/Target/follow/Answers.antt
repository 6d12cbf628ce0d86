use Rattle.std.proofs.Common.{◌∷◌, subst, List}
use Rattle.bus_base.specs.declared.Event.{Event}
use Rattle.due_model.specs.dialogue_model.specs.Hearing.{hearing}
use Rattle.due_model.specs.dialogue_model.specs.declared.exchange.Hearing.{Hearing}
use Rattle.disk_target.specs.Bytes.{StandsInOwn}
use Rattle.disk_target.specs.Knowns.{IsQuiet}
use Rattle.disk_target.specs.Targets.{TargetValue}
use Rattle.disk_target.proofs.target.Target.follow.Goals as goal
use Rattle.due_model.specs.RunSteps.{events_of_row}

pub returns-then-stands_in_own-clause-trace : goal.returns-then-stands_in_own-clause-trace
returns-then-stands_in_own-clause-trace c = λ s rows fits o devices tied time labels shown_is h.
    let row = c.args.row.now in
    let course = c.self.inside.course in
    let view = c.view.ensures.trace (row ∷ rows) o in
    c.follow_quiet.ensures.trace s rows fits o devices tied time
    (subst (λ (x : TargetValue). StandsInOwn rows row x.def.dev) c.self.view_is
    (c.stands_in_own.ensures rows row view c.if-stands_in_own.true))
    (subst (λ (x : TargetValue). IsQuiet (hearing rows row) x.course (events_of_row s rows row)) c.self.view_is
    (subst (λ (l : List Event). IsQuiet (hearing rows row) course l) shown_is
    (subst (λ (w : Hearing). IsQuiet w course c.args.shown.now) (c.hearing.ensures (row ∷ rows) o)
    (c.is_quiet.ensures c.if-is_quiet.true)))) h
