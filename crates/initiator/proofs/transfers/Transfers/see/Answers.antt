use Rattle.std.proofs.Common.{◌∷◌, ◌∙◌, ap}
use Rattle.initiator.specs.Transfers.{TransfersValue}
use Rattle.initiator.proofs.TransferRows.{transfers_dev, transfers_go_on}
use Rattle.initiator.proofs.transfers.Transfers.see.Goals as goal

pub returns-clause-trace : goal.returns-clause-trace
returns-clause-trace c = λ s rows row d told b a books for_it h. transfers_go_on s rows row c.args.self.now
    _ c.args.book.now c.args.aim c.args.hearing.now c.args.before c.args.after c.after.ensures
    (c.kept_is_plain.ensures.rows s rows d.1) (c.kept_is_plain.ensures.rows s (row ∷ rows) d)
    (c.hearings_are_plain.ensures.hearing s rows row d.1 d.0) d told b a books for_it h

pub returns-clause-dev : goal.returns-clause-dev
returns-clause-dev c = ap (λ (v : TransfersValue). v.dev) c.after.ensures
    ∙ transfers_dev c.args.book.now.mines c.args.aim c.args.hearing.now c.args.before c.args.after c.args.self.now
