use Rattle.std.proofs.Common.{◌∙◌, ap}
use Rattle.due_model.specs.RunState.{item_of}
use Rattle.due_model.specs.RunSteps.{run_state}
use Rattle.due_model.specs.Telling.{id_of}
use Rattle.initiator.specs.Transfers.{TransfersValue, process_of_link}
use Rattle.initiator.proofs.TransferRows.{process_is, own_is}
use Rattle.initiator.proofs.transfers.Transfers.process.Goals as goal

pub returns-clause-rows : goal.returns-clause-rows
returns-clause-rows c = λ s rows h. c.process_of_link.ensures
    ∙ ap (λ (v : TransfersValue). process_of_link v.link) c.self.view_is ∙ process_is s rows c.args.self.now h

pub returns-clause-trace : goal.returns-clause-trace
returns-clause-trace c = λ s rows n h own. returns-clause-rows c s rows h
    ∙ (λ i. id_of (item_of (own_is rows c.args.self.now.dev n (run_state s rows).story.link own i)))
