use Rattle.std.proofs.Common.{◌∙◌, ap, Option}
use Rattle.bus_base.specs.declared.Event.{Event}
use Rattle.story_model.specs.BusState.{row_reading}
use Rattle.due_model.specs.RunSteps.{run_state}
use Rattle.due_model.specs.Telling.{initiator_events}
use Rattle.initiator.proofs.TransferRows.{completion_is, own_is}
use Rattle.initiator.proofs.transfers.Transfers.completion.Goals as goal
use Rattle.due_model.specs.dialogue_model.specs.Events.{event_if}

pub returns-clause-rows : goal.returns-clause-rows
returns-clause-rows c = λ s rows row d told h. ap (λ (e : Option Event). event_if e) c.completion_in.ensures
    ∙ completion_is s rows row c.args.self.now c.args.hearing.now (c.kept_is_plain.ensures.rows s rows d.1)
    (c.hearings_are_plain.ensures.hearing s rows row d.1 d.0) d.1 told h

pub returns-clause-trace : goal.returns-clause-trace
returns-clause-trace c = λ s rows row n d told h own. returns-clause-rows c s rows row d told h
    ∙ (λ i. initiator_events (run_state s rows) (own_is rows c.args.self.now.dev n (run_state s rows).story.link own i)
    (row_reading (run_state s rows).story.bus_state row))
