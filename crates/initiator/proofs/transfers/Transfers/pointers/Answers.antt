use Rattle.std.proofs.Common.{◌∙◌, ap}
use Rattle.due_model.specs.RunState.{item_of}
use Rattle.due_model.specs.RunSteps.{run_state}
use Rattle.due_model.specs.Telling.{id_of}
use Rattle.initiator.specs.Transfers.{TransfersValue, process_of_link, active_at, active_of}
use Rattle.initiator.proofs.TransferRows.{pointers_are, own_is}
use Rattle.initiator.proofs.transfers.Transfers.pointers.Goals as goal

pub returns-clause-rows : goal.returns-clause-rows
returns-clause-rows c = λ s rows d h.
    c.active_at.ensures
    ∙ (λ i. active_at (c.as_slice.ensures.value i) (c.process_of_link.ensures i))
    ∙ ap (λ (v : TransfersValue). active_at v.held (process_of_link v.link)) c.self.view_is
    ∙ pointers_are s rows c.args.self.now (c.kept_is_plain.ensures.rows s rows d) d h

pub returns-clause-trace : goal.returns-clause-trace
returns-clause-trace c = λ s rows n d h own. returns-clause-rows c s rows d h ∙ (λ i. active_of (run_state s rows)
    (id_of (item_of (own_is rows c.args.self.now.dev n (run_state s rows).story.link own i))))
