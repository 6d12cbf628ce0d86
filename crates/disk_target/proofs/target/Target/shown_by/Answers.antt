use Rattle.std.proofs.Common.{◌∷◌}
use Rattle.due_model.specs.RunSteps.{run_state}
use Rattle.due_model.specs.Tasks.{given_of}
use Rattle.disk_target.proofs.Knowing.{sources}
use Rattle.disk_target.proofs.target.Target.shown_by.Goals as goal

pub returns : goal.returns
returns c = λ s rows row fits o d e able h course own before after from.
    let x = c.requires.known in
    let n = c.args.connection.now in
    c.shown.ensures.trace s rows row c.args.self.now.def c.args.known.now.state d (c.hearing.ensures (row ∷ rows) o)
    (c.connection-after.ensures.trace (row ∷ rows) (c.view.ensures.trace (row ∷ rows) o)) own
    h.line.target_is e before after (x.told s rows n fits able (sources s rows c.args.self.now h) h.reply_is
    (course n own before).ends_are own before from) (x.serving (given_of s (run_state s rows))) course
